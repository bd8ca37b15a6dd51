-- A message that a request begins is an allowed upper transport PDU: what does not go whole is long enough, what is allowed is not too long, and octet 0 is written of a key or an opcode
-- that is allowed. Assumes nothing.
use mathlib.Core.Bool.{Bool, true, false}
use mathlib.Core.List.{List}
use mathlib.Core.Path.{◌≡◌, refl, sym, ap, ◌∙◌, subst}
use Prim.Native.Nat.{ℕ, ◌+◌, ◌%◌, ◌≤◌}
use native.Mathlib.Omega.{arith}
use borrow.Author.Tests.{leb-false, le-leb, lt-ltb}
use lib.Dec.{leb, ltb}
use lib.ListN.{length}
use Rattle.common.proofs.Tests.{by_choice}
use Rattle.modes.specs.Ccm.{mic_octets}
use Rattle.transport.specs.declared.securing.MessageKey.{MessageKey}
use Rattle.transport.specs.declared.securing.MessageKey.TheVariants.{Application, Device}
use Rattle.transport.specs.Securing.{application_key_places, trans_mic, secured}
use Rattle.transport.specs.Segment.{message_octets, full_octets, last_segment, access_octet, control_octet}
use Rattle.transport.specs.Vetting.{octet_allowed, bit_allowed, least, most, Allowed}
use Rattle.transport.proofs.SecureOpen.{secured_length}
use Rattle.memory.specs.declared.outgoing.Outgoing.{Outgoing}
use Rattle.memory.specs.declared.pair.Pair.{Pair}
use Rattle.memory.specs.declared.session.Terms.{Terms}
use Rattle.node.specs.declared.addresses.Node.{Node}
use Rattle.receiver.specs.declared.state.Receiver.{Receiver}
use Rattle.sending.specs.declared.access.KeyUsed.{KeyUsed}
use Rattle.sending.specs.declared.request.Request.{Request}
use Rattle.sending.specs.Access.{keyed, is_whole, access_allowed, envelope_of, outgoing_of}
use Rattle.sending.specs.Control as control
use Rattle.sending.specs.Request.{additional_for}
use Rattle.sending.specs.Sendable.{Sendable}
use Rattle.sending.proofs.Laws.Allowed.{access_allows, control_allows}
use Rattle.sending.proofs.Laws.Shapes.{Keeps, keeps_access, keeps_control, envelope_is}

-- what is kept is the octets that it was made of
sendable_kept :
    (o : Outgoing) (src : ℕ) (auth : Pair) (terms : Terms) (ttl : ℕ) (octets : List ℕ) → Keeps o src auth terms ttl octets → length octets ≤ message_octets
    → Allowed terms.ctl terms.first terms.szmic (o.auth.seq % 8192) octets → terms.segn ≡ last_segment (full_octets terms.ctl) (length octets)
    → Sendable o
sendable_kept o src auth terms ttl octets k h a last =
    let e = k.octets_are h in
    record {
      octets_places = k.places;
      len_is = ap length e ∙ sym k.len_is;
      allowed = rw (k.terms_is, e) a;
      seg_n_is = rw (k.terms_is, e) last;
    }

-- ---- an access message
access_octet_law : (k : Bool) (a : ℕ) → (k ≡ false → a ≡ 0) → octet_allowed false (access_octet true k a) ≡ true
unfolding octet_allowed access_octet
access_octet_law true a h = rw (le-leb 128 (128 + 64 + a % 64) (omega arith), le-leb 64 ((128 + 64 + a % 64) % 128) (omega arith)) refl
access_octet_law false a h = rw (h refl) refl

keyed_octet : (node : Node) (key : MessageKey) → octet_allowed false (access_octet true (keyed node key).akf (keyed node key).aid) ≡ true
keyed_octet node (Application i) =
    by_choice (λ (k : KeyUsed). octet_allowed false (access_octet true k.akf k.aid) ≡ true) (ltb i application_key_places)
    (λ _. access_octet_law true _ (λ e. absurd (let z : ◌≡◌ {A = ℕ} 0 1 = cc in omega arith)))
    (λ _. access_octet_law true 0 (λ e. refl))
keyed_octet node Device = access_octet_law false 0 (λ e. refl)

-- what does not go whole is long enough
long_enough : (szmic : Bool) (n : ℕ) → 1 ≤ n → is_whole szmic n ≡ false → least false szmic ≤ n + mic_octets (trans_mic szmic)
unfolding is_whole least
long_enough true n h w = omega arith
long_enough false n h w = omega (arith, leb-false n 11 w)

bit_access : (szmic : Bool) → bit_allowed false szmic ≡ true
unfolding bit_allowed
bit_access szmic = refl

most_access : most false ≡ message_octets
unfolding most
most_access = refl

pub access_sendable :
    (r : Receiver) (q : Request) (key : MessageKey) (szmic : Bool) (payload : List ℕ)
    → access_allowed r q key szmic (length payload) ≡ true → is_whole szmic (length payload) ≡ false
    → (let k = keyed r.node key in Sendable (outgoing_of (envelope_of r q k szmic) q k (additional_for r.node q.dst) payload))
access_sendable r q key szmic payload a w =
    let k = keyed r.node key in
    let e = envelope_of r q k szmic in
    let additional = additional_for r.node q.dst in
    let m = secured k.key e additional payload in
    let z : e.szmic ≡ szmic = rw (envelope_is r q k szmic) refl in
    let long : length m ≡ length payload + mic_octets (trans_mic szmic) = secured_length k.key e additional payload ∙ rw z refl in
    let p = access_allows r q key szmic (length payload) a in
    let low : length m ≤ message_octets = rw long p.payload_most in
    let enough : least false szmic ≤ length m = rw long (long_enough szmic (length payload) p.some_payload w) in
    sendable_kept (outgoing_of e q k additional payload) _ _ _ _ m (keeps_access e q k additional payload) low
    (record {
      octet_fits = keyed_octet r.node key;
      bit_fits = bit_access e.szmic;
      seq_zero_fits = omega arith;
      not_shorter = subst (λ (s : Bool). least false s ≤ length m) (sym z) enough;
      not_longer = rw most_access low;
    }) refl

-- ---- a control message
control_octet_law : (o : ℕ) → 1 ≤ o → o ≤ 0x7F → octet_allowed true (control_octet true o) ≡ true
unfolding octet_allowed control_octet
control_octet_law o h k = rw (le-leb 128 (128 + o % 128) (omega arith), lt-ltb 0 ((128 + o % 128) % 128) (omega arith)) refl

pub control_sendable :
    (r : Receiver) (q : Request) (o : ℕ) (parameters : List ℕ) → control.control_allowed r q o (length parameters) ≡ true
    → leb (length parameters) 11 ≡ false → Sendable (control.outgoing_of r q o parameters)
unfolding most least bit_allowed
control_sendable r q o parameters a w =
    let p = control_allows r q o (length parameters) a in
    let most-parameters = p.parameters_most in
    let long = leb-false (length parameters) 11 w in
    sendable_kept (control.outgoing_of r q o parameters) _ _ _ _ parameters (keeps_control r q o parameters) (omega arith)
    (record {
      octet_fits = control_octet_law o p.opcode_least p.opcode_most;
      bit_fits = refl;
      seq_zero_fits = omega arith;
      not_shorter = omega arith;
      not_longer = most-parameters;
    }) refl
