-- A session that holds all the octets of a speech hands up its message: they are the secured message, which its key opens again, or a control message's own
-- octets. Assumes nothing.
--   session_of   the session of a speech
--   Up           the message is handed up of it
--   session_up   it is, where the session holds all the octets
use mathlib.Core.Bool.{Bool, true}
use mathlib.Core.List.{List}
use mathlib.Core.Path.{◌≡◌, refl, sym, ap, ◌∙◌}
use Prim.Native.Nat.{ℕ, ◌≤◌, ◌<◌}
use lib.ListN.{length, take}
use Rattle.std.specs.Prelude.{Ok, if◌then◌else◌}
use Rattle.common.specs.Lent.{Lent, lent}
use Rattle.common.specs.Lists.{onto}
use Rattle.transport.specs.declared.securing.MessageKey.{MessageKey}
use Rattle.transport.specs.Fields.{opcode}
use Rattle.transport.specs.Ranges.{OpcodeInRange}
use Rattle.transport.specs.Securing.{opened, unsecuring}
use Rattle.transport.proofs.ReadsBack.{akf_access, aid_access, opcode_control}
use Rattle.transport.specs.Segment.{message_octets}
use Rattle.memory.specs.declared.session.Session.{Session}
use Rattle.node.specs.Addresses.{held_by}
use Rattle.node.specs.declared.addresses.Node.{Node}
use Rattle.node.specs.Index.{SameFixed}
use Rattle.node.specs.Made.{WellMade}
use Rattle.receiver.specs.declared.answer.Taken.{Taken}
use Rattle.receiver.specs.declared.state.Receiver.{Receiver}
use Rattle.receiver.specs.declared.answer.Answer.TheVariants as answer
use Rattle.receiver.specs.Segmented as segments
use Rattle.receiver.proofs.Laws.Segment.{access_up_law, control_up_law}
use Rattle.demands.specs.Speech.{Words, Access, Control, Speech, is_control, szmic_of, aid_of, akf_of}
use Rattle.demands.specs.Speech.{first_of, envelope_of, octets_of, WordsRead, Speakable, hand_up_as, hand_up, application_place, opener_of}
use Rattle.demands.proofs.SpeechCut.{cut_is}
use Rattle.demands.proofs.SpeechMessage.{Opens, message_opens}
use Rattle.demands.proofs.SpeechSegment.{terms_of}

-- the session of a speech, with these places filled, so long, and these octets
abbrev pub session_of : Node → Speech → (bits len : ℕ) → List ℕ → Session
session_of node s bits len bytes = record { src = s.src; auth = s.auth; terms = terms_of node s; filled = bits; len = len; bytes = bytes }

module _ (node : Node) (made : WellMade node) (s : Speech) (w : Speakable node s) (r : Receiver) (same : SameFixed r.node node) (bits len : ℕ) (bytes : List ℕ) where
  abbrev session : Session
  session = session_of node s bits len bytes

  abbrev up : List ℕ → Lent Taken
  up msg = if is_control s.words then segments.control_up r session msg else segments.access_up r session msg

  -- the message is handed up, its application key tried at its place
  abbrev pub Up : List ℕ → Type 0
  Up msg =
      up msg
      ≡ lent (record { answer = Ok (hand_up node s).answer; trials = application_place node s s.words; receiver = segments.upgraded r session }) (onto (hand_up node s).octets msg)

  module _ (msg : List ℕ) (room : message_octets ≤ length msg) (all : take len bytes ≡ octets_of node s) where
    envelope_is :
        (key : MessageKey) (szmic : Bool) (payload : List ℕ) → s.words ≡ Access key szmic payload → aid_of node key < 64
        → segments.session_envelope session ≡ envelope_of node s key szmic
    envelope_is key szmic payload e low =
        rw (ap (first_of node) e, ap szmic_of e, akf_access true (akf_of key) (aid_of node key), aid_access true (akf_of key) (aid_of node key) low) refl

    -- what is handed up of these words
    abbrev handing : Words → Lent Taken
    handing ws =
        lent (record { answer = Ok (hand_up_as node s ws).answer; trials = application_place node s ws; receiver = segments.upgraded r session }) (onto (hand_up_as node s ws).octets msg)

    -- access or control, by the words
    abbrev either : Bool → Lent Taken
    either b = if b then segments.control_up r session msg else segments.access_up r session msg

    opened_up :
        (key : MessageKey) (szmic : Bool) (payload : List ℕ) → s.words ≡ Access key szmic payload → Opens node s key szmic payload msg → Up msg
    opened_up key szmic payload e o =
        let u :
        unsecuring (held_by r.node) (segments.session_envelope session) (take len bytes) msg
        ≡ lent (opened (opener_of node s key) (application_place node s (Access key szmic payload)) (length payload)) (onto payload msg) =
        rw (ap held_by same, envelope_is key szmic payload e o.aid_fits, all) o.opens_to_law in
        ap either (ap is_control e) ∙ access_up_law r session msg (opener_of node s key) (application_place node s (Access key szmic payload)) (length payload) (onto payload msg) u
        ∙ ap handing (sym e)

    control_handed : (code : ℕ) (parameters : List ℕ) → s.words ≡ Control code parameters → OpcodeInRange code → Up msg
    control_handed code parameters e q =
        let coded : opcode (first_of node s.words) ≡ code = ap (λ (ws : Words). opcode (first_of node ws)) e ∙ opcode_control true code q.opcode_fits in
        let octets = all ∙ cut_is node s (Control code parameters) e in
        let told : ℕ → List ℕ → Lent Taken =
        λ c m. lent (record { answer = Ok (answer.Control s.src s.dst s.network c s.auth (length m)); trials = 0; receiver = segments.upgraded r session }) (onto m msg) in
        ap either (ap is_control e) ∙ control_up_law r session msg ∙ ap (λ (c : ℕ). told c (take len bytes)) coded ∙ ap (told code) octets ∙ ap handing (sym e)

    up_as : (ws : Words) → s.words ≡ ws → WordsRead node s ws → Up msg
    up_as (Access key szmic payload) e q = opened_up key szmic payload e (message_opens node s made szmic payload msg room key e q)
    up_as (Control code parameters) e q = control_handed code parameters e q.1

    pub session_up : Up msg
    session_up = up_as s.words refl w.words_read
