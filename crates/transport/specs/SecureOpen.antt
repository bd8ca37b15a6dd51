-- Promises: a secured message is so long; the pair that secured it, or the device key, opens it again; which pairs were tried; and what every opening leaves.
use Rattle.std.specs.Prelude.{Bool, true, false, List, [], Err, ◌≡◌, ℕ, ◌+◌, ◌*◌, ◌<◌, ◌≤◌, length, get_or}
use Rattle.common.specs.Lent.{lent}
use Rattle.common.specs.Lists.{onto, same}
use Rattle.common.specs.Paper.{number_of}
use Rattle.common.specs.Search.{first}
use Rattle.modes.specs.Ccm.{mic_octets, longest_data}
use Rattle.transport.specs.declared.securing.Envelope.{Envelope}
use Rattle.transport.specs.declared.securing.Held.{Held}
use Rattle.transport.specs.declared.securing.Opener.{Opener}
use Rattle.transport.specs.declared.securing.Opener.TheVariants.{Application, Labelled, Device}
use Rattle.transport.specs.declared.securing.Unopened.TheVariants.{NotOpened}
use Rattle.transport.specs.Securing.{application_key_places, label_places, trans_mic, secured, pairs, key_by, additional_by, opens_message}
use Rattle.transport.specs.Securing.{opened, unsecuring, opener_values, paper, trials_of}
use Rattle.transport.specs.Segment.{message_octets}

-- a secured message has its TransMIC behind it
abbrev pub SecuredLength : Type 0
SecuredLength = (key : List ℕ) (e : Envelope) (additional m : List ℕ) → length (secured key e additional m) ≡ length m + mic_octets (trans_mic e.szmic)

-- a message that can be handed up, and the buffer lent for it
pub record Fits (m buf : List ℕ) : Type 0 where
  -- there is a payload
  pub some_payload : 1 ≤ length m
  -- no message is longer than the least buffer
  pub short : length m ≤ message_octets
  -- the buffer is not refused 16
  pub room : message_octets ≤ length buf

-- the place of a pair among those tried, from 0; their number where it is none of them
abbrev pub same_opener : Opener → Opener → Bool
same_opener x y = same (opener_values x) (opener_values y)

unfoldable pub place_of : Held → Envelope → Opener → ℕ
place_of held e x = first (same_opener x) (pairs held e)

-- the pair at a place
abbrev pub pair_at : Held → Envelope → ℕ → Opener
pair_at held e k = get_or (pairs held e) k Device

-- a receiver, by what it holds, of a message c that this pair secured
pub record Receives (held : Held) (x : Opener) (e : Envelope) (c buf : List ℕ) : Type 0 where
  -- AKF is 1
  pub akf_set : e.akf ≡ true
  -- the pair is one of those tried
  pub tried : place_of held e x < length (pairs held e)
  -- no pair before it authenticates the message
  pub none_before : (k : ℕ) → k < place_of held e x → opens_message held e c buf (pair_at held e k) ≡ false

-- what a pair secured, a receiver opens to the same message; its trials are the pairs before it, and the pair
abbrev pub UnsecureSecure : Type 0
UnsecureSecure =
    (held : Held) (x : Opener) (e : Envelope) (m buf : List ℕ)
    → (let c = secured (key_by held x) e (additional_by held x) m in
    Fits m buf
    -- CCM takes so much additional data: a label has sixteen octets
    → length (additional_by held x) ≤ longest_data
    → Receives held x e c buf
    → unsecuring held e c buf ≡ lent (opened x (place_of held e x + 1) (length m)) (onto m buf))

-- what the device key secured, it opens to the same message, with no trials
abbrev pub UnsecureSecureDevice : Type 0
UnsecureSecureDevice =
    (held : Held) (e : Envelope) (m buf : List ℕ)
    → Fits m buf
    -- AKF is 0
    → e.akf ≡ false
    → unsecuring held e (secured held.device e [] m) buf ≡ lent (opened Device 0 (length m)) (onto m buf)

-- ---- which pairs were tried
-- the trials of a message are the place, from 1, of the pair that opened it: this one opens it, and none before it
pub record FirstToOpen (held : Held) (e : Envelope) (c buf : List ℕ) (x : Opener) (trials : ℕ) : Type 0 where
  pub place : ℕ
  pub counted : trials ≡ place + 1
  pub within : place < length (pairs held e)
  pub named : pair_at held e place ≡ x
  pub opens : opens_message held e c buf x ≡ true
  pub none_before : (k : ℕ) → k < place → opens_message held e c buf (pair_at held e k) ≡ false

abbrev pub OpenedByFirst : Type 0
OpenedByFirst =
    (held : Held) (e : Envelope) (c buf : List ℕ) (x : Opener) (trials len : ℕ) (left : List ℕ)
    → e.akf ≡ true → unsecuring held e c buf ≡ lent (opened x trials len) left → FirstToOpen held e c buf x trials

-- 13 of a message that is long enough carries the number of pairs, and none of them opens it
abbrev pub NoneOpened : Type 0
NoneOpened =
    (held : Held) (e : Envelope) (c buf : List ℕ) (trials : ℕ) (left : List ℕ)
    → e.akf ≡ true → 1 + mic_octets (trans_mic e.szmic) ≤ length c → unsecuring held e c buf ≡ lent (Err (NotOpened trials)) left
    → (trials ≡ length (pairs held e)) × ((k : ℕ) → k < length (pairs held e) → opens_message held e c buf (pair_at held e k) ≡ false)

-- there are four application keys and four labels at most, so no more than sixteen pairs
abbrev pub TrialsMost : Type 0
TrialsMost = (held : Held) (e : Envelope) (c buf : List ℕ) → trials_of (unsecuring held e c buf).answer ≤ application_key_places * label_places

-- ---- what every opening leaves
-- the message of len octets that stands in what a call left of buf
pub record Stands (c buf : List ℕ) (len : ℕ) (left : List ℕ) : Type 0 where
  pub len_most : len ≤ message_octets
  pub len_within : len ≤ length c
  -- the buffer is as long as it was
  pub as_long : length left ≡ length buf

-- a message that is opened, by whatever
abbrev pub MessageStands : Type 0
MessageStands =
    (held : Held) (e : Envelope) (c buf : List ℕ) (x : Opener) (trials len : ℕ) (left : List ℕ)
    → unsecuring held e c buf ≡ lent (opened x trials len) left → Stands c buf len left

-- the places of the application key and the label that opened a message are among four each
abbrev pub Low : Opener → Type 0
Low (Application i) = i < application_key_places
Low (Labelled i j) = (i < application_key_places) × (j < label_places)
Low Device = Unit {0}

abbrev pub PlaceLow : Type 0
PlaceLow =
    (held : Held) (e : Envelope) (c buf : List ℕ) (x : Opener) (trials len : ℕ) (left : List ℕ)
    → unsecuring held e c buf ≡ lent (opened x trials len) left → Low x

-- what is refused, 13 or 16, keeps the buffer
abbrev pub RefusedKeeps : Type 0
RefusedKeeps =
    (held : Held) (e : Envelope) (c buf : List ℕ) → 0 < number_of (paper (unsecuring held e c buf).answer) → (unsecuring held e c buf).buffer ≡ buf
