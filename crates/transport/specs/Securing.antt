-- An access message is secured and opened here (MP 3.6, document 01, "Transport" and the nonce table; document 02, W8).
--   application_candidates held e   the application keys of that AID bound to the opening network key
--   label_candidates held a         the labels of that address
--   pairs held e                    what is tried: keys, each alone or with the labels of DST
--   securing key e a m buf          what a call that secures m into buf leaves
--   unsecuring held e c buf         what a call that opens c into buf leaves
use Rattle.std.specs.Prelude.{Bool, true, false, ◌&&◌, List, [], ◌∷◌, Some, None, Result, Ok, Err, map, ℕ, ◌+◌, ◌-◌, min, eqb, ltb, length, get_or, if◌then◌else◌}
use Rattle.common.specs.Lent.{Lent, lent}
use Rattle.common.specs.Lists.{tab, onto, joined}
use Rattle.common.specs.Paper.{Paper, Refusal, Given, ToldApart}
use Rattle.common.specs.Search.{picked}
use Rattle.common.specs.Trials.{Outcome, Succeeded, Failed, tries}
use Rattle.aes.specs.KeyExpansion.{key_schedule}
use Rattle.modes.specs.declared.ccm.MicSize.{MicSize}
use Rattle.modes.specs.declared.ccm.MicSize.TheVariants.{Four, Eight}
use Rattle.modes.specs.Ccm.{mic_octets, longest_data, sealed_with, opening_with}
use Rattle.network.specs.declared.address.AddressKind.{AddressKind}
use Rattle.network.specs.declared.address.AddressKind.TheVariants.{Unassigned, Unicast, Virtual, Group, Reserved}
use Rattle.network.specs.Address.{kind_of}
use Rattle.network.specs.Nonce.{application_nonce, device_nonce}
use Rattle.transport.specs.declared.securing.ApplicationKey.{ApplicationKey}
use Rattle.transport.specs.declared.securing.Envelope.{Envelope}
use Rattle.transport.specs.declared.securing.Held.{Held}
use Rattle.transport.specs.declared.securing.LabelUuid.{LabelUuid}
use Rattle.transport.specs.declared.securing.Opened.{Opened}
use Rattle.transport.specs.declared.securing.Opener.{Opener}
use Rattle.transport.specs.declared.securing.Opener.TheVariants.{Application, Labelled, Device}
use Rattle.transport.specs.declared.securing.Tried.{Tried}
use Rattle.transport.specs.declared.securing.Unopened.{Unopened}
use Rattle.transport.specs.declared.securing.Unopened.TheVariants.{NotOpened, ShortBuffer}
use Rattle.transport.specs.Segment.{message_octets}

-- how many application keys can be held, and labels
abbrev pub application_key_places : ℕ
application_key_places = 4

abbrev pub label_places : ℕ
label_places = 4

-- TransMIC: 4 octets, or 8 if SZMIC is 1
abbrev pub trans_mic : Bool → MicSize
trans_mic true = Eight
trans_mic false = Four

-- the second nonce: of an application key if AKF is 1, else of the device key
unfoldable pub message_nonce_of : Envelope → List ℕ
message_nonce_of e =
    if e.akf then application_nonce e.szmic e.seq e.src e.dst e.iv else
    device_nonce e.szmic e.seq e.src e.dst e.iv

-- the message under a key: encrypted, and its TransMIC behind it; to a label with the label's octets as additional data, to an address with none
unfoldable pub secured : List ℕ → Envelope → List ℕ → List ℕ → List ℕ
secured key e additional m = sealed_with (key_schedule key) (message_nonce_of e) (trans_mic e.szmic) additional m

-- what a key with additional data makes of a secured message: whether it authenticates, and what the buffer then holds
unfoldable pub opened_by : List ℕ → Envelope → List ℕ → List ℕ → List ℕ → Lent Bool
opened_by key e additional c buf = opening_with (key_schedule key) (message_nonce_of e) (trans_mic e.szmic) additional c buf

-- where there is no key, and no label
abbrev pub no_application_key : ApplicationKey
no_application_key = record { key = []; aid = 0; bound = 0 }

abbrev pub no_label : LabelUuid
no_label = record { octets = []; address = 0 }

-- the key at a place of the list, and the label
abbrev pub application_key_at : List ApplicationKey → ℕ → ApplicationKey
application_key_at keys i = get_or keys i no_application_key

abbrev pub label_at : List LabelUuid → ℕ → LabelUuid
label_at labels j = get_or labels j no_label

-- of that AID, and bound to the opening network key
abbrev pub fits_key : Envelope → ApplicationKey → Bool
fits_key e k = eqb k.aid e.aid && eqb k.bound e.network

-- the places of the keys that fit, in their fixed order; at most four keys are held
unfoldable pub application_candidates : Held → Envelope → List ℕ
application_candidates held e = picked (λ i. fits_key e (application_key_at held.appkeys i)) (tab (λ i. i) (min held.applications application_key_places))

-- the places of the labels of an address, in their fixed order; at most four labels are held
unfoldable pub label_candidates : Held → ℕ → List ℕ
label_candidates held a = picked (λ j. eqb (label_at held.labels j).address a) (tab (λ j. j) (min held.labelled label_places))

abbrev pub virtual_kind : AddressKind → Bool
virtual_kind Unassigned = false
virtual_kind Unicast = false
virtual_kind Virtual = true
virtual_kind Group = false
virtual_kind Reserved = false

-- the address is virtual
unfoldable pub is_virtual : ℕ → Bool
is_virtual a = virtual_kind (kind_of a)

-- what is tried under the key at place i: for a virtual DST each label of that address, for any other the key alone
unfoldable pub pairs_under : Held → ℕ → ℕ → List Opener
pairs_under held dst i = if is_virtual dst then map (Labelled i) (label_candidates held dst) else Application i ∷ []

-- all that is tried: the keys that fit in order, and under each key its pairs in order
unfoldable pub pairs : Held → Envelope → List Opener
pairs held e = joined (pairs_under held e.dst) (application_candidates held e)

-- the key's octets, and the additional data: the label's octets, or none
abbrev pub key_by : Held → Opener → List ℕ
key_by held (Application i) = (application_key_at held.appkeys i).key
key_by held (Labelled i j) = (application_key_at held.appkeys i).key
key_by held Device = held.device

abbrev pub additional_by : Held → Opener → List ℕ
additional_by held (Application i) = []
additional_by held (Labelled i j) = (label_at held.labels j).octets
additional_by held Device = []

-- what a pair makes of a secured message, and whether it authenticates
abbrev pub opened_by_pair : Held → Envelope → List ℕ → List ℕ → Opener → Lent Bool
opened_by_pair held e c buf x = opened_by (key_by held x) e (additional_by held x) c buf

abbrev pub opens_message : Held → Envelope → List ℕ → List ℕ → Opener → Bool
opens_message held e c buf x = (opened_by_pair held e c buf x).answer

-- what the trials under the key at place i leave: the message under the pair that authenticates, or the buffer as it was
abbrev pub tried_as : Held → Envelope → List ℕ → List ℕ → Outcome Opener → Lent Tried
tried_as held e c buf (Succeeded x trials) = lent (record { trials = trials; opener = Some x }) (opened_by_pair held e c buf x).buffer
tried_as held e c buf (Failed trials) = lent (record { trials = trials; opener = None }) buf

unfoldable pub under_key : Held → ℕ → Envelope → List ℕ → List ℕ → Lent Tried
under_key held i e c buf = tried_as held e c buf (tries (opens_message held e c buf) (pairs_under held e.dst i))

-- a message of len octets, opened by x with so many trials
abbrev pub opened : Opener → ℕ → ℕ → Result Opened Unopened
opened x trials len = Ok (record { opener = x; trials = trials; len = len })

-- what all trials leave
abbrev pub message_by : Held → Envelope → List ℕ → List ℕ → Outcome Opener → Lent (Result Opened Unopened)
message_by held e c buf (Succeeded x trials) =
    lent (opened x trials (length c - mic_octets (trans_mic e.szmic))) (opened_by_pair held e c buf x).buffer
message_by held e c buf (Failed trials) = lent (Err (NotOpened trials)) buf

-- AKF 1: the pairs are tried one by one, stopping at the first that authenticates; the number of trials is that pair's place among them, from 1, or
-- their number when none opens it
unfoldable pub by_application_keys : Held → Envelope → List ℕ → List ℕ → Lent (Result Opened Unopened)
by_application_keys held e c buf = message_by held e c buf (tries (opens_message held e c buf) (pairs held e))

-- AKF 0: the device key, which is not counted
unfoldable pub by_device_key : List ℕ → Envelope → List ℕ → List ℕ → Lent (Result Opened Unopened)
by_device_key device e c buf =
    if (opened_by device e [] c buf).answer then lent (opened Device 0 (length c - mic_octets (trans_mic e.szmic))) (opened_by device e [] c buf).buffer else
    lent (Err (NotOpened 0)) buf

-- 16: the message buffer is shorter than 384; 13: too short for payload and TransMIC, which is judged before any key; else by the keys
unfoldable pub unsecuring : Held → Envelope → List ℕ → List ℕ → Lent (Result Opened Unopened)
unsecuring held e c buf =
    if ltb (length buf) message_octets then lent (Err ShortBuffer) buf else
    if ltb (length c) (1 + mic_octets (trans_mic e.szmic)) then lent (Err (NotOpened 0)) buf else
    if e.akf then by_application_keys held e c buf else
    by_device_key held.device e c buf

-- this paper's number and values of each answer: what opened a message, in three values, the application key's place alone or with the label's, or the device key; the
-- trials; the octets
abbrev pub opener_values : Opener → List ℕ
opener_values (Application i) = 0 ∷ i ∷ 0 ∷ []
opener_values Device = 1 ∷ 0 ∷ 0 ∷ []
opener_values (Labelled i j) = 2 ∷ i ∷ j ∷ []

pub data Word : Type 0 where
  message : Word

abbrev pub paper : Result Opened Unopened → Paper Word
paper (Ok o) = Given message (o.trials ∷ o.len ∷ opener_values o.opener)
paper (Err (NotOpened trials)) = Refusal 13 (trials ∷ [])
paper (Err ShortBuffer) = Refusal 16 []

abbrev pub PaperApart : Type 0
PaperApart = ToldApart paper

-- the number of pairs tried
abbrev pub trials_of : Result Opened Unopened → ℕ
trials_of (Ok o) = o.trials
trials_of (Err (NotOpened trials)) = trials
trials_of (Err ShortBuffer) = 0

-- securing into a lent buffer: false, and the buffer as it was, where there is more additional data than CCM takes here, m is longer than 384 octets or the buffer too short
unfoldable pub securing : List ℕ → Envelope → List ℕ → List ℕ → List ℕ → Lent Bool
securing key e additional m buf =
    if ltb longest_data (length additional) then lent false buf else
    if ltb message_octets (length m) then lent false buf else
    if ltb (length buf) (length m + mic_octets (trans_mic e.szmic)) then lent false buf else
    lent true (onto (secured key e additional m) buf)
