-- Sealing from the code's steps: how the body and then the front in place make the whole PDU.
-- Key laws: `body_written`, `pdu_written`; the answers `seal_..`.
-- Assumes nothing.
use mathlib.Core.Path.{◌≡◌, refl, sym, ap, ap₂, ◌∙◌}
use mathlib.Core.Bool.{Bool, true, false, not}
use mathlib.Core.List.{List, [], ◌∷◌, ◌++◌, append-nil}
use Prim.Native.Nat.{ℕ, ◌+◌, ◌-◌, ◌≤◌}
use native.Mathlib.Omega.{arith}
use borrow.Author.Tests.{le-ltb, not-false}
use lib.Dec.{eqb}
use lib.ListN.{length, get_or, take, drop, length-append, length-drop}
use lib.Seq.{length-take-le, take_all, take-append-le, take-append-add, drop_at, drop-length}
use Rattle.std.specs.Prelude.{Result, Ok, Err, if◌then◌else◌}
use Rattle.common.specs.Lists.{onto}
use Rattle.common.specs.Lent.{Lent, lent}
use Rattle.common.specs.Paper.{Paper, Refusal, Given}
use Rattle.common.proofs.Onto.{onto_before}
use Rattle.common.proofs.PaperLaws.{told_apart}
use Rattle.aes.specs.KeyExpansion.{key_schedule}
use Rattle.modes.specs.declared.ccm.MicSize.{MicSize}
use Rattle.modes.specs.Ccm as ccm
use Rattle.modes.proofs.CcmLaws.{mic_octets_bounds, seal_done_law}
use Rattle.keys.specs.declared.NetworkKeys.{NetworkKeys}
use Rattle.network.specs.declared.header.Header.{Header}
use Rattle.network.specs.Octets.{octets}
use Rattle.network.specs.Pdu.{pdu_octets, net_mic, first_octet, clear_front, obfuscated, body_of, pdu_of}
use Rattle.network.specs.declared.sealing.Refusal as refusal
use Rattle.network.specs.declared.sealing.Refusal.TheVariants.{OutsideRules, ShortBuffer}
use Rattle.network.specs.Sealing.{Word, sealed, paper, PaperApart, most_transport, sealable, sealing}
use Rattle.network.proofs.Front.{length_obfuscated}
use Rattle.network.proofs.Sealed.{clear_body, nonce_for, length_clear, mic_octets_law, length_body, pdu_length, within}

-- ---- the body, written from octet 7 on, where it has 22 octets at most
pub body_most : (ctl : Bool) (len : ℕ) → len ≤ most_transport ctl → (len ≤ 16) × (2 + len + (if ctl then 8 else 4) ≤ 22)
body_most true len l = (omega arith, omega arith)
body_most false len l = (omega arith, omega arith)

pub transport_most : (ctl : Bool) (len : ℕ) → len ≤ most_transport ctl → len ≤ 16
transport_most ctl len l = (body_most ctl len l).0

-- a header's transport has sixteen octets
pub transport_sixteen : (h : Header) {clear : List ℕ} → clear ≡ octets 2 h.dst ++ h.transport → length clear ≡ 18 → length h.transport ≡ 16
unfolding octets
transport_sixteen h e l = omega (arith, ap length e)

module _ (h : Header) (sixteen : length h.transport ≡ 16) (fits : h.len ≤ most_transport h.ctl) where
  pub transport_there : h.len ≤ length h.transport
  transport_there = omega (arith, transport_most h.ctl h.len fits)

-- DST and all of transport hold what is sealed
pub clear_room : (ctl : Bool) (len : ℕ) (clear : List ℕ) → len ≤ most_transport ctl → length clear ≡ 18 → 2 + len ≤ length clear
clear_room ctl len clear fits l = omega (arith, transport_most ctl len fits)

module _ (key : NetworkKeys) (h : Header) (fits : h.len ≤ most_transport h.ctl) where
  pub body_written :
      (out : List ℕ) {ks : List (List ℕ)} {nonce clear y : List ℕ} {size : MicSize} {ok : Bool} → pdu_octets ≤ length out
      → ks ≡ key_schedule key.encryption → nonce ≡ nonce_for h → size ≡ net_mic h.ctl
      → clear ≡ octets 2 h.dst ++ h.transport → length clear ≡ 18
      → lent ok y ≡ ccm.sealing ks nonce size (take (2 + h.len) clear) (take (length out - 7) (drop 7 out))
      → take 7 out ++ (y ++ drop (length out - 7) (drop 7 out)) ≡ take 7 out ++ onto (body_of key h) (drop 7 out)
  unfolding body_of octets
  body_written out {ks} {nonce} {clear} {y} {size} {ok} room ek en es ec eighteen e =
      let sixteen = transport_sixteen h ec eighteen in
      let d = drop 7 out in
      let ld = length-drop 7 out in
      let m = clear_body h in
      let em : take (2 + h.len) clear ≡ m = ap (take (2 + h.len)) ec ∙ take-append-add (octets 2 h.dst) h.transport h.len in
      let whole : take (length out - 7) d ≡ d = take_all (length out - 7) d (omega arith) in
      let none : drop (length out - 7) d ≡ [] = ap (λ (n : ℕ). drop n d) (sym ld) ∙ drop-length d in
      let b = body_most h.ctl h.len fits in
      let l = length_clear h (transport_there h sixteen fits) in
      let done = seal_done_law (key_schedule key.encryption) (nonce_for h) (net_mic h.ctl) m d
      (omega (arith, l)) (omega (arith, l, mic_octets_law h.ctl)) refl in
      let ey : y ≡ onto (body_of key h) d = ap (λ (l : Lent Bool). l.buffer) ((rw (ek, en, es, em, whole) at e) ∙ sym done) in
      ap (λ (z : List ℕ). take 7 out ++ z) (ap₂ ◌++◌ ey none ∙ append-nil (onto (body_of key h) d))

-- the buffer is still long enough for the front
pub length_body_written : (key : NetworkKeys) (h : Header) (out : List ℕ) {x : List ℕ} → pdu_octets ≤ length out → x ≡ take 7 out ++ onto (body_of key h) (drop 7 out) → 14 ≤ length x
length_body_written key h out {x} room e =
    let b = body_of key h in
    let d = drop 7 out in
    omega (
      arith,
      ap length e,
      length-append (take 7 out) (onto b d),
      length-take-le 7 out (omega arith),
      length-append b (drop (length b) d),
      length-drop (length b) d,
      length-drop 7 out,
    )

-- ---- both, in this order
module _ (key : NetworkKeys) (h : Header) (sixteen : length h.transport ≡ 16) (ok : sealable key h ≡ true) where
  pub pdu_written :
      (out : List ℕ) {x y : List ℕ} → pdu_octets ≤ length out → x ≡ take 7 out ++ onto (body_of key h) (drop 7 out)
      → y ≡ onto (first_octet h.iv key.nid ∷ obfuscated key h.iv (clear_front h) (take 7 (drop 7 x))) x
      → y ≡ onto (pdu_of key h) out
  unfolding pdu_of
  pdu_written out {x} {y} room ex ey =
      let b = body_of key h in
      let d = drop 7 out in
      let w = within key h ok in
      let lb = length_body key h (transport_there h sixteen w.most_transport_law) in
      let seven : length (take 7 out) ≡ 7 = length-take-le 7 out (omega arith) in
      let behind : drop 7 x ≡ onto b d = ap (drop 7) ex ∙ drop_at (take 7 out) (onto b d) 7 seven in
      let random : take 7 (drop 7 x) ≡ take 7 b =
      ap (take 7) behind ∙ take-append-le 7 b (drop (length b) d) (omega (arith, w.some_transport, mic_octets_law h.ctl, (mic_octets_bounds (net_mic h.ctl)).0)) in
      let f = first_octet h.iv key.nid in
      let o = obfuscated key h.iv (clear_front h) (take 7 b) in
      let six : length o ≡ 6 = length_obfuscated key h.iv (clear_front h) (take 7 b) in
      ey
      ∙ ap (λ (r : List ℕ). onto (f ∷ obfuscated key h.iv (clear_front h) r) x) random
      ∙ onto_before (f ∷ o) b out x 7 (omega arith) behind

-- ---- the answers
abbrev read : Paper Word → Result ℕ refusal.Refusal
read (Given sealed v) = Ok (get_or v 0 0)
read (Refusal n v) = Err (if eqb n 14 then OutsideRules else ShortBuffer)

back : (a : Result ℕ refusal.Refusal) → read (paper a) ≡ a
back (Ok len) = refl
back (Err OutsideRules) = refl
back (Err ShortBuffer) = refl

pub paper_apart : PaperApart
paper_apart = told_apart paper read back

module _ (key : NetworkKeys) (h : Header) (out : List ℕ) where
  module _ (room : pdu_octets ≤ length out) where
    pub seal_sealed :
        {n : ℕ} {y : List ℕ} → sealable key h ≡ true → n ≡ length (pdu_of key h) → y ≡ onto (pdu_of key h) out
        → lent (Ok n) y ≡ sealing key h out
    unfolding sealing
    seal_sealed e en ey = simp (le-ltb (length out) pdu_octets room, e) (ap₂ (λ (k : ℕ) (z : List ℕ). lent (Ok k) z) en ey)

    module _ {may : Bool} (e : may ≡ sealable key h) where
      module _ (f : not may ≡ false) where
        allowed : sealable key h ≡ true
        allowed = sym e ∙ not-false may f

        pub seal_most : h.len ≤ most_transport h.ctl
        seal_most = (within key h allowed).most_transport_law

        pub seal_nid : key.nid ≤ 127
        seal_nid = (within key h allowed).nid_fits

        pub seal_len : h.len ≤ 16
        seal_len = transport_most h.ctl h.len seal_most

        -- the body and then the front were written
        pub seal_written :
            {clear x y : List ℕ} {n : ℕ} → clear ≡ octets 2 h.dst ++ h.transport → length clear ≡ 18
            → x ≡ take 7 out ++ onto (body_of key h) (drop 7 out)
            → y ≡ onto (first_octet h.iv key.nid ∷ obfuscated key h.iv (clear_front h) (take 7 (drop 7 x))) x
            → n ≡ 9 + h.len + (if h.ctl then 8 else 4)
            → lent (Ok n) y ≡ sealing key h out
        seal_written ec eighteen ex ey en =
            let sixteen = transport_sixteen h ec eighteen in
            seal_sealed allowed (en ∙ sym (pdu_length key h (transport_there h sixteen seal_most))) (pdu_written key h sixteen allowed out room ex ey)
