-- One key tried on one PDU, from the code's steps: fields are read octet by octet, and each answer of `tried` follows from the tests before it.
-- Key laws: `taken`, `number_two`, `onto_zeros`, `take_padded`; `header_read`; the answers `tried_short`, `tried_forged` and `tried_done`.
-- Assumes nothing.
use mathlib.Core.Bool.{Bool, true, false, not, ◌&&◌}
use mathlib.Core.List.{List}
use mathlib.Core.Path.{◌≡◌, refl, sym, ap, ◌∙◌}
use Prim.Native.Nat.{ℕ, ◌+◌, ◌*◌, ◌-◌, ◌≤◌, ◌<◌}
use native.Mathlib.Nat.{zero-add}
use native.Mathlib.Omega.{arith}
use borrow.Author.Tests.{le-ltb, ltb-true, ltb-false, not-true, not-false}
use lib.Dec.{ltb}
use lib.ListN.{length, get_or, take, drop, replicate, length-append, length-drop, length-replicate, get_or-replicate, get_or-append, get_or-eq_default}
use lib.Seq.{get_or-take, get_or-drop, get_or-append-add, length-take-le, take_all, take_at}
use Rattle.std.specs.Prelude.{Some, None, if◌then◌else◌}
use Rattle.common.specs.Lists.{tab, padded, onto}
use Rattle.common.specs.Lent.{Lent, lent}
use Rattle.common.proofs.Lists.{tab_is, take_tab, padded_all}
use Rattle.common.proofs.Tests.{by_test}
use Rattle.aes.specs.KeyExpansion.{key_schedule}
use Rattle.modes.specs.declared.ccm.MicSize.{MicSize}
use Rattle.modes.specs.Ccm.{mic_octets, longest, decrypted, opening}
use Rattle.modes.proofs.CcmLaws.{length_decrypted}
use Rattle.keys.specs.declared.NetworkKeys.{NetworkKeys}
use Rattle.network.specs.declared.header.Header.{Header}
use Rattle.network.specs.Octets.{number_from, number}
use Rattle.network.specs.Pdu.{pdu_octets, net_mic, front_of}
use Rattle.network.specs.Trial.{ctl_of, ttl_of, seq_of, src_of, nonce_of, header_of, body_tried, tried}

-- n octets read one by one from a place on
pub taken : (n at : ℕ) (l : List ℕ) → at + n ≤ length l → tab (λ i. get_or l (at + i) 0) n ≡ take n (drop at l)
taken n at l h =
    sym (tab_is (λ i. get_or l (at + i) 0) 0 n (take n (drop at l)) (length-take-le n (drop at l) (omega (arith, length-drop at l)))
    (λ k m. get_or-take n (drop at l) k 0 m ∙ get_or-drop at l k 0))

-- the number of two octets
pub number_two : (at : ℕ) (l : List ℕ) → at + 2 ≤ length l → get_or l (at + 0) 0 * 256 + get_or l (at + 1) 0 ≡ number (take 2 (drop at l))
unfolding number number_from
number_two at l h = simp zero-add at (ap number (taken 2 at l h))

-- octets copied onto zeros: behind the end of l both are zero
zeros_behind : (n : ℕ) (l : List ℕ) (k : ℕ) → length l ≤ k → k < n → get_or (onto l (replicate n 0)) k 0 ≡ 0
zeros_behind n l k h m =
    let e : k ≡ length l + (k - length l) = omega arith in
    ap (λ (j : ℕ). get_or (onto l (replicate n 0)) j 0) e
    ∙ get_or-append-add l (drop (length l) (replicate n 0)) (k - length l) 0
    ∙ get_or-drop (length l) (replicate n 0) (k - length l) 0
    ∙ get_or-replicate n (length l + (k - length l)) 0 0 (omega arith)

pub onto_zeros : (n : ℕ) (l : List ℕ) → length l ≤ n → onto l (replicate n 0) ≡ padded n l
onto_zeros n l h =
    let r = length-replicate {A = ℕ} n 0 in
    tab_is (λ i. get_or l i 0) 0 n (onto l (replicate n 0))
    (simp (length-append, length-drop) (omega arith))
    (λ k m.
    by_test (ltb k (length l))
    (λ t. get_or-append l (drop (length l) (replicate n 0)) 0 k (ltb-true k (length l) t))
    (λ t. zeros_behind n l k (ltb-false k (length l) t) m ∙ sym (get_or-eq_default l 0 (ltb-false k (length l) t))))

-- the octets are those in front
pub take_padded : (n : ℕ) (l : List ℕ) → length l ≤ n → take (length l) (padded n l) ≡ l
take_padded n l h = take_tab (λ i. get_or l i 0) n (length l) h ∙ padded_all (length l) l refl

-- a slice from k on is all that lies behind k
pub rest_all : (k : ℕ) (l : List ℕ) → take (length l - k) (drop k l) ≡ drop k l
rest_all k l = take_all (length l - k) (drop k l) (omega (arith, length-drop k l))

-- the header's transport is what lies behind DST
pub transport_copied : (body : List ℕ) → length body ≤ 18 → onto (take 16 (take (length body - 2) (drop 2 body))) (replicate 16 0) ≡ padded 16 (drop 2 body)
transport_copied body h =
    let d = length-drop 2 body in
    ap (λ (l : List ℕ). onto (take 16 l) (replicate 16 0)) (rest_all 2 body)
    ∙ ap (λ (l : List ℕ). onto l (replicate 16 0)) (take_all 16 (drop 2 body) (omega arith))
    ∙ onto_zeros 16 (drop 2 body) (omega arith)

-- the header read
pub header_read :
    (place iv : ℕ) (front body : List ℕ) {ctl : Bool} {seq src dst : ℕ} {t : List ℕ} → (2 ≤ length body) × (length body ≤ 18)
    → ctl ≡ ctl_of front → seq ≡ seq_of front → src ≡ src_of front → dst ≡ get_or body 0 0 * 256 + get_or body 1 0
    → t ≡ onto (take 16 (take (length body - 2) (drop 2 body))) (replicate 16 0)
    → record { key = place; iv = iv; ctl = ctl; ttl = ttl_of front; seq = seq; src = src; dst = dst; len = length body - 2; transport = t }
    ≡ header_of place iv front body
unfolding header_of
header_read place iv front body range ec es er ed et =
    rw (ec, es, er, ed ∙ number_two 0 body range.0, et ∙ transport_copied body range.1)

-- ---- opening into a buffer that has room: the answer is that of decrypting, and where it is true its message goes onto the buffer
choice_answer : (b : Bool) (x y : List ℕ) → (if b then lent true x else lent false y).answer ≡ b
choice_answer true x y = refl
choice_answer false x y = refl

module _ (ks : List (List ℕ)) (nonce : List ℕ) (size : MicSize) (c buf : List ℕ)
    (has_mic : mic_octets size ≤ length c) (room : length c - mic_octets size ≤ length buf) (short : length buf ≤ longest)
    {ok : Bool} {out : List ℕ} (e : lent ok out ≡ opening ks nonce size c buf) where
  opening_is :
      lent ok out ≡ (if (decrypted ks nonce size c).answer then lent true (onto (decrypted ks nonce size c).buffer buf) else lent false buf)
  unfolding opening
  opening_is =
      e
      ∙ simp
      (le-ltb (length c) (mic_octets size) has_mic, le-ltb longest (length c - mic_octets size) (omega arith), le-ltb (length buf) (length c - mic_octets size) room)

  opening_answer : (decrypted ks nonce size c).answer ≡ ok
  opening_answer =
      sym (ap (λ (d : Lent Bool). d.answer) opening_is ∙ choice_answer (decrypted ks nonce size c).answer (onto (decrypted ks nonce size c).buffer buf) buf)

  opening_buffer : ok ≡ true → out ≡ onto (decrypted ks nonce size c).buffer buf
  opening_buffer t = ap (λ (d : Lent Bool). d.buffer) (rw (opening_answer ∙ t) at opening_is)

-- ---- the answers of a trial
-- a PDU of 14 to 29 octets that is not too short for its CTL has 3 to 18 octets between its front and its NetMIC
pub clear_bounds :
    (ctl : Bool) (n : ℕ) {short : Bool} → (14 ≤ n) × (n ≤ pdu_octets) → short ≡ (ctl && ltb n 18) → short ≡ false
    → (10 + mic_octets (net_mic ctl) ≤ n) × (n ≤ 25 + mic_octets (net_mic ctl))
clear_bounds true n range e f = (omega (arith, ltb-false n 18 (sym e ∙ f)), omega arith)
clear_bounds false n range e f = (omega arith, omega arith)

module _ (ctl : Bool) (n : ℕ) {short : Bool} (range : (14 ≤ n) × (n ≤ pdu_octets)) (e : short ≡ (ctl && ltb n 18)) (f : short ≡ false) where
  pub clear_there : 7 + mic_octets (net_mic ctl) ≤ n
  clear_there = let b = clear_bounds ctl n range e f in omega arith

  module _ {m : ℕ} (em : m ≡ n - 7 - mic_octets (net_mic ctl)) where
    pub clear_least : 2 ≤ m
    clear_least = let b = clear_bounds ctl n range e f in omega arith

    pub clear_most : m ≤ 18
    clear_most = let b = clear_bounds ctl n range e f in omega arith

module _ (key : NetworkKeys) (place iv : ℕ) (pdu : List ℕ) {front : List ℕ} {ctl short : Bool} (ef : front ≡ front_of key iv pdu)
    (ec : ctl ≡ ctl_of front) (es : short ≡ (ctl && ltb (length pdu) 18)) where
  pub tried_short : short ≡ true → None ≡ tried key place iv pdu
  unfolding tried
  tried_short t = rw (← ef, ← ec, ← es, t)

  module _ (range : (14 ≤ length pdu) × (length pdu ≤ pdu_octets)) (left : short ≡ false) {ok : Bool} {out : List ℕ}
      (eo : lent ok out ≡ opening (key_schedule key.encryption) (nonce_of iv front) (net_mic (ctl_of front)) (drop 7 pdu) (replicate 18 0)) where
    tried_long :
        tried key place iv pdu
        ≡ (if (body_tried key iv front pdu).answer then Some (header_of place iv front (body_tried key iv front pdu).buffer) else None)
    unfolding tried
    tried_long = rw (← ef, ← ec, ← es, left)

    bounds : (10 + mic_octets (net_mic (ctl_of front)) ≤ length pdu) × (length pdu ≤ 25 + mic_octets (net_mic (ctl_of front)))
    bounds = rw ec at (clear_bounds ctl (length pdu) range es left)

    body_answer : (body_tried key iv front pdu).answer ≡ ok
    unfolding body_tried
    body_answer =
        let b = bounds in
        let d = length-drop 7 pdu in
        opening_answer (key_schedule key.encryption) (nonce_of iv front) (net_mic (ctl_of front)) (drop 7 pdu) (replicate 18 0)
        (omega arith) (omega arith) (omega arith) eo

    pub tried_forged : not ok ≡ true → None ≡ tried key place iv pdu
    tried_forged f = sym (rw (body_answer ∙ not-true ok f) at tried_long)

    -- the first n octets of what was opened are the body
    body_taken : (n : ℕ) → ok ≡ true → n ≡ length pdu - 7 - mic_octets (net_mic (ctl_of front)) → take n out ≡ (body_tried key iv front pdu).buffer
    unfolding body_tried
    body_taken n t en =
        let b = bounds in
        let d = length-drop 7 pdu in
        let m = (body_tried key iv front pdu).buffer in
        let l : length m ≡ length (drop 7 pdu) - mic_octets (net_mic (ctl_of front)) =
        length_decrypted (key_schedule key.encryption) (nonce_of iv front) (net_mic (ctl_of front)) (drop 7 pdu) refl in
        ap (take n)
        (opening_buffer (key_schedule key.encryption) (nonce_of iv front) (net_mic (ctl_of front)) (drop 7 pdu) (replicate 18 0)
        (omega arith) (omega arith) (omega arith) eo t)
        ∙ take_at m (drop (length m) (replicate 18 0)) n (omega arith)

    pub tried_done :
        {n : ℕ} {h : Header} → not ok ≡ false → n ≡ length pdu - 7 - mic_octets (net_mic ctl) → h ≡ header_of place iv front (take n out)
        → Some h ≡ tried key place iv pdu
    tried_done {n} {h} f en eh =
        let t = not-false ok f in
        let k : h ≡ header_of place iv front (body_tried key iv front pdu).buffer =
        eh ∙ ap (header_of place iv front) (body_taken n t (rw ec at en)) in
        rw k (sym (rw (body_answer ∙ t) at tried_long))

pub ruleset tried_rules = (tried_short, tried_forged, tried_done)
