-- The message of a speech opens again: its key is among the receiver's, and so is its label, no pair tried earlier opens it, and opening undoes securing by the same key, envelope and
-- label.
-- Assumes nothing.
--   Opens           AID has its bits, AKF 0 a unicast DST, and the receiver's keys give the payload
--   message_opens   so it is with every access message that can be spoken
use mathlib.Core.Bool.{Bool, true, false, true≢false}
use mathlib.Core.List.{List}
use mathlib.Core.Path.{◌≡◌, refl, sym, ap, ap₂, ◌∙◌}
use Prim.Native.Nat.{ℕ, ◌≤◌, ◌<◌}
use native.Mathlib.Omega.{arith}
use lib.ListN.{length}
use Rattle.common.specs.Lent.{lent}
use Rattle.common.specs.Lists.{onto}
use Rattle.keys.proofs.Widths.{aid_low}
use Rattle.network.specs.Address.{is_unicast}
use Rattle.transport.specs.declared.securing.MessageKey.{MessageKey}
use Rattle.transport.specs.declared.securing.MessageKey.TheVariants.{Application, Device}
use Rattle.transport.specs.SecureOpen as message
use Rattle.transport.specs.Securing.{application_key_at, key_by, additional_by, secured, opened, unsecuring}
use Rattle.transport.proofs.SecureOpen.{secured_length, unsecure_secure, unsecure_secure_device}
use Rattle.transport.specs.Segment.{message_octets}
use Rattle.node.specs.declared.addresses.Node.{Node}
use Rattle.node.specs.Addresses.{held_by}
use Rattle.node.specs.Made.{WellMade}
use Rattle.demands.specs.Speech.{Access, Speech, key_of, aid_of, akf_of, envelope_of, octets_of, opener_of, Fits, WordsRead, application_place}
use Rattle.demands.proofs.OpenerLaws.{opener_key, opener_additional, label_short, key_held}
use Rattle.demands.proofs.SpeechCut.{cut_is}

module _ (node : Node) (s : Speech) where
  -- AID has 6 bits, AKF 0 needs a unicast DST, and the receiver's keys give the payload, the message's own being tried at its place
  pub record Opens (key : MessageKey) (szmic : Bool) (payload msg : List ℕ) : Type 0 where
    pub aid_fits : aid_of node key < 64
    pub unicast : akf_of key ≡ false → is_unicast s.dst ≡ true
    pub opens_to_law :
        unsecuring (held_by node) (envelope_of node s key szmic) (octets_of node s) msg
        ≡ lent (opened (opener_of node s key) (application_place node s (Access key szmic payload)) (length payload)) (onto payload msg)

  module _ (made : WellMade node) (szmic : Bool) (payload msg : List ℕ) (room : message_octets ≤ length msg) where
    fits_here : (key : MessageKey) → s.words ≡ Access key szmic payload → Fits payload (octets_of node s) message_octets → message.Fits payload msg
    fits_here key e f =
        let l = secured_length (key_of node key) (envelope_of node s key szmic) s.label payload in
        record { some_payload = f.some; short = let m = rw (cut_is node s (Access key szmic payload) e) at f.enough in omega arith; room = room }

    pub message_opens : (key : MessageKey) → s.words ≡ Access key szmic payload → WordsRead node s (Access key szmic payload) → Opens key szmic payload msg
    message_opens (Application j) e q =
        let x = opener_of node s (Application j) in
        let v = envelope_of node s (Application j) szmic in
        let k = q.1 msg room in
        let held = key_held node s j v k.tried in
        let a = opener_additional node s j made q.2 in
        let same : secured (key_by (held_by node) x) v (additional_by (held_by node) x) payload ≡ octets_of node s =
        ap₂ (λ (key label : List ℕ). secured key v label payload) (opener_key node s j) a ∙ sym (cut_is node s (Access (Application j) szmic payload) e) in
        record {
          aid_fits = rw (made.aid_derived j (omega arith)) (aid_low (application_key_at node.appkeys j).key);
          unicast = λ f. absurd (true≢false f);
          opens_to_law =
              rw (sym same)
              (unsecure_secure (held_by node) x v payload msg (fits_here (Application j) e q.0)
              (rw a (let short = label_short node s j made q.2 in omega arith)) (rw (sym same) at k));
        }
    message_opens Device e q =
        let c = cut_is node s (Access Device szmic payload) e ∙ ap (λ (label : List ℕ). secured node.device (envelope_of node s Device szmic) label payload) q.2 in
        record {
          aid_fits = omega arith;
          unicast = λ _. q.1;
          opens_to_law = rw c (unsecure_secure_device (held_by node) (envelope_of node s Device szmic) payload msg (fits_here Device e q.0) refl);
        }
