-- The session of a speech holds, at each place that is filled, that segment's octets: a segment is laid at its own place, and other places stay. When all are filled
-- its octets are the message. Assumes nothing.
--   Holds        what a session with these places filled holds
--   holds_begun  one with none
--   holds_more   one with a segment more
--   holds_all    one with all of them
use mathlib.Core.Bool.{true, false≢true}
use mathlib.Core.List.{List}
use mathlib.Core.Path.{◌≡◌, sym, ap, ◌∙◌, subst}
use Prim.Native.Nat.{ℕ, ◌+◌, ◌-◌, ◌*◌, ◌/◌, ◌≤◌, ◌<◌, min}
use native.Mathlib.Nat.{mul_comm, suc-mul, mul-le-mul_right}
use native.Mathlib.Omega.{arith}
use borrow.Author.Tests.{eqb-true, eqb-false, ltb-true, ltb-false}
use lib.Dec.{eqb, ltb}
use lib.ListN.{length, get_or, take, drop, replicate, length-take, length-drop, length-replicate}
use lib.Seq.{get_or-take, get_or-drop, ext_get_or}
use Rattle.common.specs.Bits.{has_bit, with_bit, all_bits}
use Rattle.common.specs.Chunks.{chunk}
use Rattle.common.proofs.BitLaws.{has_none, has_all, has_with_other}
use Rattle.common.proofs.Tests.{by_test}
use Rattle.network.specs.declared.header.Header.{Header}
use Rattle.transport.specs.Segment.{message_octets}
use Rattle.memory.specs.Session.{octet_place, segment_octets, length_with, stored}
use Rattle.memory.proofs.SessionLaws.{length_last, length_kept}
use Rattle.memory.proofs.Stored.{place_is, stored_is, length_stored, stored_read, stored_before, stored_behind}
use Rattle.node.specs.declared.addresses.Node.{Node}
use Rattle.demands.specs.Speech.{Speech, is_control, octets_of, size_of, last_of, header_of, Speakable}
use Rattle.demands.proofs.SpeechCut.{cut, last_count, last_low, part_bounds}
use Rattle.demands.proofs.SpeechSegment.{transport_long, segment_octets_law}
use Rattle.demands.proofs.SpeechSession.{session_of}

-- a place ends before a later one begins
ends_before : (size j i : ℕ) → j < i → size * j + size ≤ size * i
ends_before size j i h =
    let m = mul-le-mul_right size h in
    omega (arith, mul_comm size i, mul_comm size j, suc-mul j size)

-- the octets of the places that are filled are there; the last one told the length
pub record Holds (node : Node) (s : Speech) (bits len : ℕ) (bytes : List ℕ) : Type 0 where
  pub long : length bytes ≡ message_octets
  pub parts :
      (j p : ℕ) → has_bit bits j ≡ true → size_of s * j ≤ p → p < size_of s * j + size_of s → p < length (octets_of node s)
      → get_or bytes p 0 ≡ get_or (octets_of node s) p 0
  pub told : has_bit bits (last_of node s) ≡ true → len ≡ length (octets_of node s)

pub holds_begun : (node : Node) (s : Speech) → Holds node s 0 0 (replicate message_octets 0)
holds_begun node s =
    record {
      long = length-replicate {A = ℕ} message_octets 0;
      parts = λ j p b _ _ _. absurd (false≢true (sym (has_none j) ∙ b));
      told = λ b. absurd (false≢true (sym (has_none (last_of node s)) ∙ b));
    }

module _ (node : Node) (s : Speech) (w : Speakable node s) where
  abbrev size : ℕ
  size = size_of s

  abbrev whole : List ℕ
  whole = octets_of node s

  -- the last chunk ends the message
  ends_last : length whole ≤ size * last_of node s + size
  ends_last =
      let l = last_count node s w in
      by_test (is_control s.words) (λ t. let c = rw t at l in rw t (omega arith)) (λ t. let c = rw t at l in rw t (omega arith))

  -- octet x of a chunk
  in_part : (i x : ℕ) → x < size → get_or (chunk size whole i) x 0 ≡ get_or whole (size * i + x) 0
  in_part i x h = get_or-take size (drop (size * i) whole) x 0 h ∙ get_or-drop (size * i) whole x 0

  part_length : (i : ℕ) → length (chunk size whole i) ≡ min size (length whole - size * i)
  part_length i = length-take size (drop (size * i) whole) ∙ ap (min size) (length-drop (size * i) whole)

  -- ---- a segment more
  module _ (bits len : ℕ) (bytes : List ℕ) (k : Holds node s bits len bytes) (i : ℕ) (there : i ≤ last_of node s) (seq ttl : ℕ) where
    abbrev h : Header
    h = header_of node s i seq ttl

    abbrev part : List ℕ
    part = chunk size whole i

    abbrev pub new_bytes : List ℕ
    new_bytes = (stored (session_of node s bits len bytes) h i).bytes

    abbrev pub new_len : ℕ
    new_len = length_with (session_of node s bits len bytes) h i

    pub segment_stored : stored (session_of node s bits len bytes) h i ≡ session_of node s (with_bit bits i) new_len new_bytes
    segment_stored = stored_is (session_of node s bits len bytes) h i

    placed_at : octet_place (is_control s.words) i ≡ size * i
    placed_at = let l = last_low node s w in place_is (is_control s.words) i (omega arith)

    read_here : segment_octets h ≡ part
    read_here = segment_octets_law node s w i there seq ttl

    sixteen : length h.transport ≡ 16
    sixteen = transport_long node s w i there seq ttl

    -- what is laid is read
    laid : take (length part) (drop (size * i) new_bytes) ≡ part
    laid =
        let e = stored_read (session_of node s bits len bytes) h i k.long sixteen in
        subst (λ (l : List ℕ). take (length l) (drop (size * i) new_bytes) ≡ l) read_here
        (subst (λ (a : ℕ). take (length (segment_octets h)) (drop a new_bytes) ≡ segment_octets h) placed_at e)

    own_part : (p : ℕ) → size * i ≤ p → p < size * i + size → p < length whole → get_or new_bytes p 0 ≡ get_or whole p 0
    own_part p lo hi end =
        let x = p - size * i in
        let e : size * i + x ≡ p = omega arith in
        let l = part_length i in
        let low : x < length part = omega arith in
        subst (λ (q : ℕ). get_or new_bytes q 0 ≡ get_or whole q 0) e
        (sym (get_or-take (length part) (drop (size * i) new_bytes) x 0 low ∙ get_or-drop (size * i) new_bytes x 0)
        ∙ ap (λ (l : List ℕ). get_or l x 0) laid ∙ in_part i x (omega arith))

    other_part : (j p : ℕ) → (j ≡ i → ⊥) → size * j ≤ p → p < size * j + size → get_or new_bytes p 0 ≡ get_or bytes p 0
    other_part j p n lo hi =
        by_test (ltb j i)
        (λ t. let b = ends_before size j i (ltb-true j i t) in
        stored_before (session_of node s bits len bytes) h i k.long sixteen p (rw placed_at (omega arith)))
        (λ t. let g = ltb-false j i t in
        let b = ends_before size i j (omega arith) in
        let l = part_length i in
        stored_behind (session_of node s bits len bytes) h i k.long sixteen p (rw (placed_at, read_here) (omega arith)))

    told_last : i ≡ last_of node s → new_len ≡ length whole
    told_last e =
        let l = part_length i in
        let z = ends_last in
        let b = (part_bounds node s w i there).0 in
        let g : size * i ≡ size * last_of node s = ap (λ (n : ℕ). size * n) e in
        length_last (session_of node s bits len bytes) h i e ∙ rw (placed_at, read_here) (omega arith)

    pub holds_more : Holds node s (with_bit bits i) new_len new_bytes
    holds_more =
        record {
          long = length_stored (session_of node s bits len bytes) h i k.long sixteen;
          parts = λ j p b lo hi end.
              by_test (eqb j i)
              (λ t. let e = ap (λ (n : ℕ). size * n) (eqb-true j i t) in own_part p (omega arith) (omega arith) end)
              (λ t. let n = eqb-false j i t in
              other_part j p n lo hi ∙ k.parts j p (sym (has_with_other bits i j n) ∙ b) lo hi end);
          told = λ b.
              by_test (eqb i (last_of node s))
              (λ t. told_last (eqb-true i (last_of node s) t))
              (λ t. let n = eqb-false i (last_of node s) t in
              sym (length_kept (session_of node s bits len bytes) h i n) ∙ k.told (sym (has_with_other bits i (last_of node s) (λ e. n (sym e))) ∙ b));
        }

  -- ---- all of them
  -- each octet of the message stands in a chunk
  chunk_of : (p : ℕ) → p < length whole → (j : ℕ) × (j ≤ last_of node s) × (size * j ≤ p) × (p < size * j + size)
  chunk_of p h =
      let l = last_count node s w in
      by_test (is_control s.words)
      (λ t. let c = rw t at l in rw t (p / 8, omega arith, omega arith, omega arith))
      (λ t. let c = rw t at l in rw t (p / 12, omega arith, omega arith, omega arith))

  pub holds_all : (len : ℕ) (bytes : List ℕ) → Holds node s (all_bits (last_of node s)) len bytes → take len bytes ≡ whole
  holds_all len bytes k =
      let low = last_low node s w in
      let t = k.told (has_all (last_of node s) (last_of node s) (omega arith) low) in
      let long = k.long in
      let most = (cut node s w).most in
      let e : length (take len bytes) ≡ length whole = length-take len bytes ∙ (omega arith) in
      ext_get_or 0 (take len bytes) whole e
      (λ p h.
      let c = chunk_of p (omega arith) in
      get_or-take len bytes p 0 (omega arith)
      ∙ k.parts c.0 p (has_all (last_of node s) c.0 c.1 (let b = c.1 in omega arith)) c.2 c.3 (omega arith))
