-- A credential from the code's steps: sixteen octets copied onto zeros, a piece read at its place in the list, the pieces read from a copy
-- (`pieces_copied`), a list whose pieces all have another NID (`all_foreign`, `piece_fits`), and what `gorephan_credentials`
-- writes: `credential_written`.
-- Assumes nothing.
use mathlib.Core.Bool.{Bool, true, false}
use mathlib.Core.List.{List}
use mathlib.Core.Path.{◌≡◌, refl, sym, ap, ◌∙◌}
use Prim.Native.Nat.{ℕ, ◌+◌, ◌-◌, ◌*◌, ◌≤◌, ◌<◌, min}
use native.Mathlib.Nat.{add-zero}
use native.Mathlib.Omega.{arith}
use borrow.Author.Tests.{eq-eqb, le-ltb}
use lib.Dec.{eqb}
use lib.ListN.{length, get_or, take, drop, replicate, length-take, length-replicate, get_or-replicate, get_or-eq_default}
use lib.Seq.{get_or-take, get_or-drop, take_all}
use Rattle.common.specs.Lent.{lent}
use Rattle.common.specs.Lists.{padded, onto}
use Rattle.common.proofs.Lists.{tab_is, tab_ext, get_d_tab, padded_all}
use Rattle.keys.specs.declared.NetworkKeys.{NetworkKeys}
use Rattle.keys.specs.Derivation.{k2}
use Rattle.network.specs.Candidates.{no_key, key_at, candidates}
use Rattle.network.proofs.CandidatesLaws.{Passed, no_candidate, nid_passed, some_candidate}
use Rattle.network.proofs.TrialLaws.{onto_zeros, rest_all}
use Rattle.radio.specs.Credential.{credential_of, keys_of, piece_at, pieces, piece_count, credentials_done}

-- ---- sixteen octets from a place on
-- only the first n octets of a list count
padded_taken : (n : ℕ) (l : List ℕ) → padded n (take n l) ≡ padded n l
padded_taken n l = tab_ext (λ i. get_or (take n l) i 0) (λ i. get_or l i 0) n (λ k h. get_or-take n l k 0 h)

-- a list copied onto n zeros
copied : (n : ℕ) (l : List ℕ) → onto (take n l) (replicate n 0) ≡ padded n l
copied n l = onto_zeros n (take n l) (simp length-take (omega arith)) ∙ padded_taken n l

pub sixteen_copied :
    (s : List ℕ) (at : ℕ) {r : List ℕ} → r ≡ onto (take 16 (take (length s - at) (drop at s))) (replicate 16 0) → r ≡ padded 16 (drop at s)
sixteen_copied s at e = e ∙ ap (λ (l : List ℕ). onto (take 16 l) (replicate 16 0)) (rest_all at s) ∙ copied 16 (drop at s)

pub sixteen_past : (s : List ℕ) (at : ℕ) → length s ≤ at → replicate 16 0 ≡ padded 16 (drop at s)
sixteen_past s at h =
    tab_is (λ i. get_or (drop at s) i 0) 0 16 (replicate 16 0) (length-replicate {A = ℕ} 16 0)
    (λ k m.
    let z : length s ≤ at + k = omega arith in
    get_or-replicate 16 k 0 0 m ∙ sym (get_or-drop at s k 0 ∙ get_or-eq_default s 0 z))

-- ---- a piece
-- sixteen octets within a piece that begins at n
part_of_piece : (n m : ℕ) (cs : List ℕ) → m ≤ 17 → padded 16 (drop (n + m) cs) ≡ padded 16 (drop m (take 33 (drop n cs)))
part_of_piece n m cs h =
    tab_ext (λ i. get_or (drop (n + m) cs) i 0) (λ i. get_or (drop m (take 33 (drop n cs))) i 0) 16
    (λ k l.
    let e : n + m + k ≡ n + (m + k) = omega arith in
    let b : m + k < 33 = omega arith in
    get_or-drop (n + m) cs k 0
    ∙ ap (λ (j : ℕ). get_or cs j 0) e
    ∙ sym (get_or-drop m (take 33 (drop n cs)) k 0 ∙ get_or-take 33 (drop n cs) (m + k) 0 b ∙ get_or-drop n cs (m + k) 0))

-- the first octet of a piece that begins at n
first_of_piece : (n : ℕ) (cs : List ℕ) → get_or (take 33 (drop n cs)) 0 0 ≡ get_or cs n 0
first_of_piece n cs = get_or-take 33 (drop n cs) 0 0 (omega arith) ∙ get_or-drop n cs 0 0 ∙ ap (λ (j : ℕ). get_or cs j 0) (add-zero n)

pub piece_read :
    (cs : List ℕ) (i : ℕ) {a : ℕ} {e p : List ℕ} → a ≡ get_or cs (33 * i) 0 → e ≡ padded 16 (drop (33 * i + 1) cs)
    → p ≡ padded 16 (drop (33 * i + 17) cs) → record { nid = a; encryption = e; privacy = p } ≡ piece_at cs i
unfolding piece_at keys_of
piece_read cs i ea ee ep =
    let n = 33 * i in
    let ka = ea ∙ sym (first_of_piece n cs) in
    let ke = ee ∙ part_of_piece n 1 cs (omega arith) in
    let kp = ep ∙ part_of_piece n 17 cs (omega arith) in
    rw (ka, ke, kp)

-- a credential of 33 octets is its own first piece
pub piece_whole : (credential : List ℕ) → length credential ≡ 33 → piece_at credential 0 ≡ keys_of credential
unfolding piece_at
piece_whole credential h = ap keys_of (take_all 33 credential (omega arith))

-- ---- the pieces of a copy
-- within its n octets a padded list has the octets of the list, and zeros behind its end
module _ (n : ℕ) (cs : List ℕ) where
  sixteen_padded : (at : ℕ) → at + 16 ≤ n → padded 16 (drop at (padded n cs)) ≡ padded 16 (drop at cs)
  sixteen_padded at h =
      tab_ext (λ i. get_or (drop at (padded n cs)) i 0) (λ i. get_or (drop at cs) i 0) 16
      (λ k l. get_or-drop at (padded n cs) k 0 ∙ get_d_tab (λ i. get_or cs i 0) n (at + k) 0 (omega arith) ∙ sym (get_or-drop at cs k 0))

  piece_padded : (i : ℕ) → 33 * i + 33 ≤ n → piece_at (padded n cs) i ≡ piece_at cs i
  piece_padded i h =
      sym (piece_read (padded n cs) i refl refl refl)
      ∙ piece_read cs i (get_d_tab (λ j. get_or cs j 0) n (33 * i) 0 (omega arith))
      (sixteen_padded (33 * i + 1) (omega arith)) (sixteen_padded (33 * i + 17) (omega arith))

-- four pieces are 132 octets
pub pieces_copied : (cs : List ℕ) {b : List ℕ} → b ≡ onto (take 132 cs) (replicate 132 0) → pieces b ≡ pieces cs
unfolding pieces
pieces_copied cs e =
    ap pieces (e ∙ copied 132 cs)
    ∙ tab_ext (piece_at (padded 132 cs)) (piece_at cs) 4 (λ i h. piece_padded 132 cs i (omega arith))

-- ---- the NIDs alone
nid_of_piece : (cs : List ℕ) (i : ℕ) → i < 4 → (key_at (pieces cs) i).nid ≡ get_or cs (33 * i) 0
unfolding pieces piece_at keys_of
nid_of_piece cs i h = ap (λ (k : NetworkKeys). k.nid) (get_d_tab (piece_at cs) 4 i no_key h) ∙ first_of_piece (33 * i) cs

module _ (cs : List ℕ) (nid : ℕ) {count : ℕ} (e : count ≡ piece_count cs) where
  count_most : count ≤ 4
  unfolding piece_count
  count_most = omega arith

  told_of : {b : Bool} → b ≡ eqb (length (candidates (pieces cs) count nid)) 0 → b ≡ eqb (length (candidates (pieces cs) (piece_count cs) nid)) 0
  told_of h = h ∙ ap (λ (n : ℕ). eqb (length (candidates (pieces cs) n nid)) 0) e

  module _ {i : ℕ} (s : Passed (pieces cs) count nid i) where
    -- past the last whole piece
    pub all_foreign : count ≤ i → true ≡ eqb (length (candidates (pieces cs) (piece_count cs) nid)) 0
    all_foreign h = told_of (no_candidate (pieces cs) count nid s (omega arith))

    module _ (h : i < count) where
      -- a whole piece begins within the list
      pub piece_begins : 33 * i < length cs
      unfolding piece_count
      piece_begins = omega (arith, e)

      held : i < min count 4
      held = omega (arith, count_most)

      pub piece_foreign : (get_or cs (33 * i) 0 ≡ nid → ⊥) → Passed (pieces cs) count nid (i + 1)
      piece_foreign f = nid_passed (pieces cs) count nid s held (λ z. f (sym (nid_of_piece cs i (omega (arith, count_most))) ∙ z))

      pub piece_fits : get_or cs (33 * i) 0 ≡ nid → false ≡ eqb (length (candidates (pieces cs) (piece_count cs) nid)) 0
      piece_fits c = told_of (some_candidate (pieces cs) count nid s held (nid_of_piece cs i (omega (arith, count_most)) ∙ c))

-- ---- what is written
module _ (key out : List ℕ) (h : length key ≡ 16) where
  -- k is the key, copied; left is the lent buffer at exit
  pub credential_written :
      {k c left : List ℕ} {d : NetworkKeys} → 33 ≤ length out → k ≡ padded 16 key → d ≡ k2 k → c ≡ credential_of d → length c ≡ 33
      → left ≡ onto (take (length out) c) out → lent 0 left ≡ credentials_done key out
  unfolding credentials_done
  credential_written {k} {c} {left} {d} g ek ed ec n el =
      let e : c ≡ credential_of (k2 key) = ec ∙ ap credential_of (ed ∙ ap k2 (ek ∙ padded_all 16 key h)) in
      simp (eq-eqb _ _ h, le-ltb _ _ g)
      (ap (lent 0) (el ∙ ap (λ (z : List ℕ). onto z out) (take_all (length out) c (omega arith) ∙ e)))
