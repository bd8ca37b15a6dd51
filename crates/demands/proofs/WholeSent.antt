-- A message that goes whole, as its sender stamps it, and what a fresh receiver with the same keys hands up of it. Assumes nothing.
--   whole_header                  the header of a transport PDU that goes whole
--   Reaches                       its PDU passes a fresh receiver
--   access_whole, control_whole   what is handed up
use mathlib.Core.Bool.{Bool, true, false, true≢false}
use mathlib.Core.List.{List, [], ◌∷◌, ◌++◌}
use mathlib.Core.Path.{◌≡◌, refl, sym, ap, ◌∙◌}
use Prim.Native.Nat.{ℕ, ◌+◌, ◌≤◌, ◌<◌}
use native.Mathlib.Omega.{arith}
use lib.ListN.{length, drop, replicate}
use Rattle.std.specs.Prelude.{Ok}
use Rattle.common.specs.Lists.{padded}
use Rattle.common.proofs.Tests.{by_test}
use Rattle.network.specs.declared.header.Header.{Header}
use Rattle.network.specs.Address.{is_unicast}
use Rattle.network.specs.Candidates.{key_at}
use Rattle.network.specs.Header.{transport_of}
use Rattle.network.specs.Pdu.{pdu_of}
use Rattle.network.specs.SealOpen.{Formed}
use Rattle.network.proofs.TrialLaws.{onto_zeros, take_padded}
use Rattle.transport.specs.Form.{key_fits}
use Rattle.transport.specs.declared.securing.MessageKey.{MessageKey}
use Rattle.transport.specs.declared.securing.MessageKey.TheVariants.{Application, Device}
use Rattle.transport.specs.Ranges.{KeyInRange, OpcodeInRange}
use Rattle.transport.specs.ReadsBack.{Carries}
use Rattle.transport.specs.Segment.{access_octet, control_octet}
use Rattle.transport.proofs.ReadsBack.{access_reads_back, control_reads_back}
use Rattle.transport.proofs.SecureOpen.{secured_length}
use Rattle.node.specs.declared.addresses.Node.{Node}
use Rattle.node.specs.declared.setup.Setup.{Setup}
use Rattle.node.specs.Addresses.{for_node}
use Rattle.node.specs.Made.{WellMade}
use Rattle.receiver.specs.Fresh.{setting_up}
use Rattle.receiver.specs.Passing.{Passes}
use Rattle.demands.specs.Interleaved.{start, node_of}
use Rattle.demands.specs.Speech.{Words, Access, Control, Speech, key_of, aid_of, akf_of, envelope_of, octets_of, WordsRead, hand_up, network_place, application_place, opener_of}
use Rattle.demands.proofs.SpeechCut.{cut_is}
use Rattle.demands.proofs.SpeechMessage.{message_opens}
use Rattle.demands.proofs.WholeHeard.{HandsUp, access_heard, control_heard}

-- the header of a speech that goes in one PDU: its pair is the PDU's own
abbrev pub whole_header : Speech → Bool → ℕ → List ℕ → Header
whole_header s ctl ttl pdu =
    record {
      key = s.network;
      iv = s.auth.iv;
      ctl = ctl;
      ttl = ttl;
      seq = s.auth.seq;
      src = s.src;
      dst = s.dst;
      len = length pdu;
      transport = padded 16 pdu;
    }

-- sealed by its network key, it passes a fresh receiver, and is for it
pub record Reaches (setup : Setup) (s : Speech) (h : Header) (fwd msg : List ℕ) : Type 0 where
  pub passes : Passes (start setup) (pdu_of (key_at (node_of setup).materials s.network) h) fwd msg (network_place (node_of setup) s) h
  pub here : for_node (node_of setup) s.dst ≡ true

module _ (setup : Setup) (ready : (setting_up setup).answer ≡ Ok tt) (s : Speech) (ttl : ℕ) (fwd msg : List ℕ) where
  abbrev node : Node
  node = node_of setup

  -- the message is handed up, each of its keys tried at its place
  abbrev pub Heard : Header → Type 0
  Heard h =
      HandsUp setup h (pdu_of (key_at node.materials s.network) h) fwd msg (hand_up node s)
      (record { network = network_place node s; application = application_place node s s.words })

  -- ---- a transport PDU in its header
  module _ (ctl : Bool) (first : ℕ) (body : List ℕ) (short : length (first ∷ body) ≤ 16) where
    abbrev h : Header
    h = whole_header s ctl ttl (first ∷ body)

    transport_is : transport_of h ≡ first ∷ body
    transport_is = take_padded 16 (first ∷ body) short

    pub formed : s.dst < 65536 → Formed h
    formed d = record { dst_fits = d; zeros_behind = ap (padded 16) transport_is }

    carries : Carries h ctl (first ∷ [])
    carries = record { behind = body ++ drop (length (first ∷ body)) (replicate 16 0); ctl_is = refl; begins = sym (onto_zeros 16 (first ∷ body) short) }

    body_is : drop 1 (transport_of h) ≡ body
    body_is = ap (drop 1) transport_is

  -- ---- control
  pub control_whole :
      (code : ℕ) (parameters : List ℕ) → s.words ≡ Control code parameters → OpcodeInRange code → length parameters ≤ 11
      → (let h = whole_header s true ttl (control_octet false code ∷ parameters) in Reaches setup s h fwd msg → Heard h)
  control_whole code parameters e o m p =
      let short : length (control_octet false code ∷ parameters) ≤ 16 = omega arith in
      let first = control_octet false code in
      let h = whole_header s true ttl (first ∷ parameters) in
      rw e
      (control_heard setup ready h _ fwd msg _ p.passes p.here code parameters
      (control_reads_back h code (carries true first parameters short) o) (body_is true first parameters short))

  -- ---- access
  module _ (made : WellMade node) (key : MessageKey) (payload : List ℕ) (e : s.words ≡ Access key false payload) (read : WordsRead node s (Access key false payload))
      (few : length payload ≤ 11) where
    abbrev octet : ℕ
    octet = access_octet false (akf_of key) (aid_of node key)

    abbrev secured_octets : List ℕ
    secured_octets = octets_of node s

    octets_long : length secured_octets ≡ length payload + 4
    octets_long = rw (cut_is node s (Access key false payload) e) (secured_length (key_of node key) (envelope_of node s key false) s.label payload)

    fits_one : length (octet ∷ secured_octets) ≤ 16
    fits_one = let l = octets_long in omega arith

    key_range : (aid : ℕ) → aid < 64 → (akf_of key ≡ false → (aid ≡ 0) × (is_unicast s.dst ≡ true)) → KeyInRange (akf_of key) aid s.dst
    unfolding key_fits
    key_range aid low u =
        record {
          aid_fits = low;
          fits =
              by_test (akf_of key)
              (λ t. rw t refl)
              (λ t. let z = u t in rw (t, z.0, z.1) refl);
        }

    read_some : (k : MessageKey) → WordsRead node s (Access k false payload) → 1 ≤ length payload
    read_some (Application i) r = r.0.some
    read_some Device r = r.0.some

    device_aid : (k : MessageKey) → akf_of k ≡ false → aid_of node k ≡ 0
    device_aid (Application i) f = absurd (true≢false f)
    device_aid Device f = refl

    pub access_whole : (let h = whole_header s false ttl (octet ∷ secured_octets) in Reaches setup s h fwd msg → Heard h)
    access_whole p =
        let h = whole_header s false ttl (octet ∷ secured_octets) in
        let o = message_opens node s made false payload msg p.passes.opened.big key e read in
        let range = key_range (aid_of node key) o.aid_fits (λ f. (device_aid key f, o.unicast f)) in
        let some = read_some key read in
        let l = octets_long in
        let x =
        access_heard setup ready h _ fwd msg _ p.passes p.here
        (akf_of key) (aid_of node key) (application_place node s (Access key false payload)) (opener_of node s key) payload
        (access_reads_back h (akf_of key) (aid_of node key) (carries false octet secured_octets fits_one) range (omega arith))
        (rw (body_is false octet secured_octets fits_one) o.opens_to_law) in
        record {
          hands = x.hands ∙ rw e refl;
          counts = x.counts ∙ ap (λ (w : Words). record { network = network_place node s; application = application_place node s w }) (sym e);
          caches = x.caches;
        }
