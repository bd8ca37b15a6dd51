-- PDUs begin a message's segments exactly if each of them fits what PDU 0 states. The segments of an allowed message fit, for each has the front and the length of its place; and PDUs
-- that fit begin the segments of what stands behind their fronts, filled up with zeros to SegN. One argument over the segment size. Assumes nothing.
--   joined_segments             what stands behind the fronts of u's segments is u
--   begins_states, begins_fit   what PDU 0 of such a list states, and that each PDU fits that
--   Shown, fit_shown            PDUs that fit begin a message's segments, and its SegN is the one stated
--   fit_begins                  the same where there may be none
use mathlib.Core.Bool.{Bool, true, false}
use mathlib.Core.List.{List, [], ◌∷◌, ◌++◌, flatten}
use mathlib.Core.Path.{◌≡◌, refl, sym, ap, ap₂, ◌∙◌}
use Prim.Native.Nat.{ℕ, zero, suc, ◌+◌, ◌-◌, ◌*◌, ◌≤◌, ◌<◌}
use native.Mathlib.Nat.{lt_of_mul-lt-mul_left, mul-le-mul_left, mul-suc}
use native.Mathlib.Omega.{arith}
use borrow.Author.Tests.{ltb-true, ltb-false, lt-ltb}
use lib.Dec.{ltb}
use lib.ListN.{length, get_or, drop, length-take, take-append-drop, length-replicate, replicate}
use lib.Seq.{take_at, drop_at, get_or-take}
use Rattle.std.specs.Prelude.{if◌then◌else◌}
use Rattle.common.specs.Chunks.{chunk, chunk_count}
use Rattle.common.specs.Lists.{tab, tab_from}
use Rattle.common.proofs.Chunks.{chunk_full, chunk_some, chunk_last, chunks_join, Cuts, length_joined, chunk_joined, count_joined}
use Rattle.common.proofs.Lists.{length_tab, get_d_tab, tab_is, take_tab}
use Rattle.common.proofs.Tests.{by_test}
use Rattle.transport.specs.declared.vetting.Stated.{Stated}
use Rattle.transport.specs.Segment.{full_octets, last_segment, segment_number, segment_front, segment_at}
use Rattle.transport.specs.Vetting.{segments_of, octet_allowed, bit_allowed, least, most, Allowed, stated_by, fits, joined}
use Rattle.transport.specs.VettedExactly.{Begins}
use Rattle.transport.proofs.FitLaws.{size_some, least_some, least_size, most_is, Fitting, Fit, fills_parts, fills_from, fits_parts, fits_from}
use Rattle.transport.proofs.ReadsBack.{fields_back, three}
use Rattle.transport.proofs.SegmentLaws.{length_front, count_last}

-- ---- the segments of an allowed message
abbrev pub made_of : ℕ → Bool → ℕ → ℕ → Stated
made_of c z q n = record { first = c; szmic = z; seqzero = q; segn = n }

-- PDU 0 states what its message was made of
stated_back : (c : ℕ) (z : Bool) (q n : ℕ) (b : List ℕ) → q < 8192 → n < 32 → stated_by (segment_front c z q 0 n ++ b) ≡ made_of c z q n
unfolding segment_front
stated_back c z q n b hq hn =
    let f = fields_back z q 0 n hq (omega arith) hn in
    let e = three c (segment_number z q 0 n) b f.small in
    rw (← e, f.is_szmic, f.is_seq_zero, f.is_seg_n) refl

-- SeqZero has 13 bits, SegN 5
stated_low : (p : List ℕ) → ((stated_by p).seqzero < 8192) × ((stated_by p).segn < 32)
stated_low p = (omega arith, omega arith)

-- behind the fronts stand the chunks
joined_from :
    (size c : ℕ) (z : Bool) (q n : ℕ) (u : List ℕ) (i m : ℕ) → joined (tab_from (segment_at size c z q n u) i m) ≡ flatten (tab_from (chunk size u) i m)
unfolding joined flatten
joined_from size c z q n u i zero = refl
joined_from size c z q n u i (suc m) =
    ap₂ ◌++◌ (drop_at (segment_front c z q i n) (chunk size u i) 4 (length_front c z q i n)) (joined_from size c z q n u (suc i) m)

-- so many segments, and SegN has 5 bits
record Spans (size n : ℕ) (u : List ℕ) : Type 0 where
  count : chunk_count size (length u) ≡ suc n
  ends : length u ≡ size * n + length (chunk size u n)
  low : n < 32

module _ (ctl : Bool) (c : ℕ) (z : Bool) (q : ℕ) (u : List ℕ) (a : Allowed ctl c z q u) where
  abbrev size : ℕ
  size = full_octets ctl

  abbrev last : ℕ
  last = last_segment size (length u)

  spans : Spans size last u
  spans =
      let some : 0 < length u = omega (arith, least_some ctl z, a.not_shorter) in
      let e = count_last size (length u) (size_some ctl) some in
      let ends = chunk_last size u last e in
      let one = (chunk_some size u last (omega arith)).0 in
      record { count = e; ends = ends; low = lt_of_mul-lt-mul_left size (omega (arith, most_is ctl, a.not_longer)) }

  pub joined_segments : joined (segments_of ctl c z q u) ≡ u
  joined_segments =
      let s = spans in
      let e = s.count in
      let most = (chunk_some size u last (omega arith)).1 in
      joined_from size c z q last u 0 (suc last) ∙ chunks_join size u (suc last) (omega (arith, s.ends, mul-suc size last))

  segment_fits_law : (i : ℕ) → i ≤ last → fits ctl (made_of c z q last) i (segment_at size c z q last u i) ≡ true
  segment_fits_law i h =
      let f = segment_front c z q i last in
      let long = length_front c z q i last in
      let behind : length (drop 4 (segment_at size c z q last u i)) ≡ length (chunk size u i) = ap length (drop_at f (chunk size u i) 4 long) in
      let count = spans.count in
      let some = chunk_some size u i (omega arith) in
      let some0 = some.0 in
      let some1 = some.1 in
      fits_from ctl (made_of c z q last) i (segment_at size c z q last u i)
      (record {
        octet = a.octet_fits;
        bit = a.bit_fits;
        low = h;
        front = take_at f (chunk size u i) 4 long;
        filled = fills_from size (least ctl z) i last (length (drop 4 (segment_at size c z q last u i)))
            (record {
              before_last = λ k. behind ∙ chunk_full size u i (omega arith);
              last_one = λ k.
                  let e : last ≡ i = omega arith in
                  let ends : length u ≡ size * last + length (chunk size u i) = spans.ends ∙ ap (λ (j : ℕ). size * last + length (chunk size u j)) e in
                  (omega arith, omega arith, omega (arith, a.not_shorter));
            });
      })

-- ---- PDUs that begin a message's segments are its segments at their places
module _ (ctl : Bool) (l : List (List ℕ)) (b : Begins ctl l) where
  abbrev full : ℕ
  full = full_octets ctl

  abbrev seg_n : ℕ
  seg_n = last_segment full (length b.u)

  abbrev at : ℕ → List ℕ
  at = segment_at full b.c b.z b.q seg_n b.u

  begins_short : length l ≤ suc seg_n
  begins_short = omega (arith, ap length b.begins, length-take (length l) (segments_of ctl b.c b.z b.q b.u), length_tab at (suc seg_n))

  begins_at : (i : ℕ) → i < length l → get_or l i [] ≡ at i
  begins_at i h =
      ap (λ (x : List (List ℕ)). get_or x i []) (sym b.begins) ∙ get_or-take (length l) (tab at (suc seg_n)) i [] h
      ∙ get_d_tab at (suc seg_n) i [] (omega (arith, begins_short))

  -- PDU 0 states what the message is made of
  pub begins_states : 0 < length l → stated_by (get_or l 0 []) ≡ made_of b.c b.z b.q seg_n
  begins_states h =
      ap stated_by (begins_at 0 h)
      ∙ stated_back b.c b.z b.q seg_n (chunk full b.u 0) b.allowed.seq_zero_fits (spans ctl b.c b.z b.q b.u b.allowed).low

  pub begins_fit : Fit ctl l
  begins_fit i h =
      rw (begins_at i h, begins_states (omega arith)) (segment_fits_law ctl b.c b.z b.q b.u b.allowed i (omega (arith, begins_short)))

-- ---- PDUs that fit begin the segments of what stands behind their fronts, filled up with zeros
abbrev body : ℕ → List (List ℕ) → ℕ → List ℕ
body size l i = if ltb i (length l) then drop 4 (get_or l i []) else replicate size 0

record Body (size few n i octets : ℕ) : Type 0 where
  full : i < n → octets ≡ size
  one : 1 ≤ octets
  most : octets ≤ size
  enough : i ≡ n → few ≤ size * n + octets

pub record Shown (ctl : Bool) (l : List (List ℕ)) : Type 0 where
  pub begun : Begins ctl l
  pub seg_n_is : last_segment (full_octets ctl) (length begun.u) ≡ (stated_by (get_or l 0 [])).segn

module _ (ctl : Bool) (l : List (List ℕ)) (f : Fit ctl l) (some : 0 < length l) where
  abbrev s : Stated
  s = stated_by (get_or l 0 [])

  abbrev n : ℕ
  n = s.segn

  abbrev width : ℕ
  width = full_octets ctl

  abbrev bodies : List (List ℕ)
  bodies = tab (body width l) (suc n)

  fitting : (i : ℕ) → i < length l → Fitting ctl s i (get_or l i [])
  fitting i h = fits_parts ctl s i (get_or l i []) (f i h)

  body_fits : (i : ℕ) → i ≤ n → Body width (least ctl s.szmic) n i (length (body width l i))
  body_fits i h =
      let few = least ctl s.szmic in
      let octets = length (drop 4 (get_or l i [])) in
      let positive = size_some ctl in
      by_test (ltb i (length l))
      (λ t.
      let p = fills_parts width few i n octets (fitting i (ltb-true i (length l) t)).filled in
      rw t
      (by_test (ltb i n)
      (λ k.
      let e = p.before_last (ltb-true i n k) in
      record { full = λ _. e; one = omega arith; most = omega arith; enough = λ j. absurd (omega (arith, ltb-true i n k)) })
      (λ k.
      let e = p.last_one (ltb-false i n k) in
      record { full = λ j. absurd (omega (arith, ltb-false i n k)); one = e.0; most = e.1; enough = λ _. e.2 })))
      (λ t.
      let e : length (replicate {A = ℕ} width 0) ≡ width = length-replicate width 0 in
      rw t (record { full = λ _. e; one = omega arith; most = omega arith; enough = λ _. omega (arith, least_size ctl s.szmic) }))

  body_cuts : Cuts width bodies
  body_cuts =
      let long = length_tab (body width l) (suc n) in
      record {
        full = λ i h. ap length (get_d_tab (body width l) (suc n) i [] (omega arith)) ∙ (body_fits i (omega arith)).full (omega arith);
        some = λ i h.
            let b = body_fits i (omega arith) in
            rw (get_d_tab (body width l) (suc n) i [] (omega arith)) (b.one, b.most);
      }

  -- the message
  abbrev u : List ℕ
  u = flatten bodies

  ends : length u ≡ width * n + length (body width l n)
  ends =
      length_joined width bodies n body_cuts (length_tab (body width l) (suc n))
      ∙ ap (λ (x : List ℕ). width * n + length x) (get_d_tab (body width l) (suc n) n [] (omega arith))

  last_is : last_segment width (length u) ≡ n
  unfolding last_segment
  last_is = let e = count_joined width bodies n body_cuts (length_tab (body width l) (suc n)) in omega arith

  allowed : Allowed ctl s.first s.szmic s.seqzero u
  allowed =
      let b = body_fits n (omega arith) in
      let low = stated_low (get_or l 0 []) in
      let e = ends in
      record {
        octet_fits = (fitting 0 some).octet;
        bit_fits = (fitting 0 some).bit;
        seq_zero_fits = low.0;
        not_shorter = omega (arith, b.enough refl);
        not_longer = omega (arith, most_is ctl, b.most, mul-suc width n, mul-le-mul_left {m = suc n} {n = 32} width low.1);
      }

  segment_is : (i : ℕ) → i < length l → get_or l i [] ≡ segment_at width s.first s.szmic s.seqzero (last_segment width (length u)) u i
  segment_is i h =
      let low = (fitting i h).low in
      let long = length_tab (body width l) (suc n) in
      sym (take-append-drop 4 (get_or l i []))
      ∙ ap₂ ◌++◌
      ((fitting i h).front ∙ ap (segment_front s.first s.szmic s.seqzero i) (sym last_is))
      (sym (chunk_joined width bodies body_cuts i (omega arith) ∙ get_d_tab (body width l) (suc n) i [] (omega arith) ∙ rw (lt-ltb i (length l) h) refl))

  pub fit_shown : Shown ctl l
  fit_shown =
      let last = last_segment width (length u) in
      let e = last_is in
      let short : length l ≤ suc last = omega (arith, (fitting (length l - 1) (omega arith)).low) in
      let at = segment_at width s.first s.szmic s.seqzero last u in
      record {
        begun = record {
          c = s.first;
          z = s.szmic;
          q = s.seqzero;
          u = u;
          allowed = allowed;
          begins = take_tab at (suc last) (length l) short ∙ sym (tab_is at [] (length l) l refl segment_is);
        };
        seg_n_is = e;
      }

-- before any PDU every message is still possible, as one of nine octets with octet 0 C1: opcode 0x41, or AKF 1 and AID 1
nine_allowed : (ctl : Bool) → Allowed ctl 0xC1 false 0 (replicate 9 0)
unfolding octet_allowed bit_allowed least most
nine_allowed true = record { octet_fits = refl; bit_fits = refl; seq_zero_fits = omega arith; not_shorter = omega arith; not_longer = omega arith }
nine_allowed false = record { octet_fits = refl; bit_fits = refl; seq_zero_fits = omega arith; not_shorter = omega arith; not_longer = omega arith }

pub fit_begins : (ctl : Bool) (l : List (List ℕ)) → Fit ctl l → Begins ctl l
fit_begins ctl [] f = record { c = 0xC1; z = false; q = 0; u = replicate 9 0; allowed = nine_allowed ctl; begins = refl }
fit_begins ctl (p ∷ l) f = (fit_shown ctl (p ∷ l) f (omega arith)).begun
