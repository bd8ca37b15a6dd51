-- `OpenSealed`: within the rules the header that a call names may be sealed, so the buffer begins with the whole PDU, and the number says how
-- long it is. The credential that sealed it is the first candidate, so one trial gives the header back (`OpenSeal`), and it says what was asked.
-- Assumes nothing.
use mathlib.Core.Bool.{true}
use mathlib.Core.List.{List}
use mathlib.Core.Logic.{inl}
use mathlib.Core.Path.{◌≡◌, refl, ap, ap₂, ◌∙◌}
use Prim.Native.Nat.{ℕ, ◌+◌, ◌*◌, ◌/◌, ◌≤◌}
use native.Mathlib.Nat.{zero-add, not-suc-le-zero}
use native.Mathlib.Omega.{arith}
use borrow.Author.Tests.{eq-eqb, le-ltb, le-leb}
use lib.Dec.{eqb}
use lib.ListN.{length, get_or, take, length-take}
use lib.Seq.{take_at}
use Rattle.std.specs.Prelude.{Ok}
use Rattle.common.specs.Lent.{Lent, lent}
use Rattle.common.specs.Lists.{padded, onto}
use Rattle.common.specs.Search.{picked}
use Rattle.common.proofs.Lists.{length_tab, take_tab, padded_all}
use Rattle.keys.specs.declared.NetworkKeys.{NetworkKeys}
use Rattle.network.specs.declared.header.Header.{Header}
use Rattle.network.specs.Candidates.{key_at, candidates}
use Rattle.network.specs.Header.{transport_of}
use Rattle.network.specs.Octets.{octets}
use Rattle.network.specs.Opening.{opening}
use Rattle.network.specs.Pdu.{pdu_octets, clear_front, pdu_of}
use Rattle.network.specs.SealOpen.{Formed, Receives}
use Rattle.network.specs.Sealing.{sealable, sealing}
use Rattle.network.proofs.Sealed.{most_16}
use Rattle.network.proofs.SealOpen.{open_seal}
use Rattle.radio.specs.ClearPdu.{clear_pdu}
use Rattle.radio.specs.Credential.{keys_of, piece_at, pieces, piece_count}
use Rattle.radio.specs.Open.{packed, told, open_done}
use Rattle.radio.specs.Seal.{header_for, seal_number, seal_done}
use Rattle.radio.specs.SealOpen.{Asked, sealed, WithinRules, clear_asked, OpenSealed}
use Rattle.radio.proofs.ClearPduLaws.{length_clear}

module _ (x : Asked) (w : WithinRules x) where
  -- the key, the header and the PDU that the call names
  abbrev key : NetworkKeys
  key = keys_of x.credential

  abbrev header : Header
  header = header_for x.iv (eqb x.ctl 1) x.ttl x.seq x.src x.dst x.transport

  abbrev asked : List ℕ
  asked = pdu_of key header

  short : length x.transport ≤ 16
  short = omega (arith, w.most_transport_law, most_16 (eqb x.ctl 1))

  -- ---- sealing
  may_seal : sealable key header ≡ true
  unfolding sealable keys_of
  may_seal =
      simp
      (le-leb _ _ w.nid_fits, le-leb _ _ w.ttl_fits, le-leb _ _ w.seq_fits, w.addresses, le-leb _ _ w.some_transport, le-leb _ _ w.most_transport_law)

  transport_back : transport_of header ≡ x.transport
  transport_back =
      take_tab (λ i. get_or x.transport i 0) 16 (length x.transport) short ∙ padded_all (length x.transport) x.transport refl

  formed : Formed header
  formed = record { dst_fits = w.dst_fits; zeros_behind = ap (padded 16) transport_back }

  sealed_is : (buffer : List ℕ) → pdu_octets ≤ length buffer → sealed x buffer ≡ lent (65536 * length asked) (onto asked buffer)
  unfolding seal_done sealing seal_number
  sealed_is buffer room =
      simp (le-ltb _ _ room, eq-eqb _ _ w.whole, le-ltb _ _ w.ctl_fits, may_seal)
      (ap (λ (k : ℕ). lent k (onto asked buffer)) (zero-add (65536 * length asked)))

  -- ---- opening
  opened_by_law : (keys : List NetworkKeys) (count : ℕ) → key_at keys 0 ≡ key → 1 ≤ count
      → opening keys count x.iv asked ≡ record { trials = 1; opened = Ok header }
  unfolding candidates picked
  opened_by_law keys count e c =
      let r : Receives keys count x.iv header (pdu_of (key_at keys 0) header) =
      record { held = omega arith; near = inl refl; none_before = λ j l. absurd (not-suc-le-zero l) } in
      rw e at (open_seal keys count x.iv header (rw e may_seal) formed r)

  first_piece : (credentials : List ℕ) → take 33 credentials ≡ x.credential → key_at (pieces credentials) 0 ≡ key
  unfolding pieces piece_at
  first_piece credentials e = ap keys_of e

  some_piece : (credentials : List ℕ) → take 33 credentials ≡ x.credential → 1 ≤ piece_count credentials
  unfolding piece_count
  some_piece credentials e = omega (arith, w.whole, simp length-take at (ap length e))

  clear_is : clear_pdu (get_or asked 0 0) header ≡ clear_asked x
  unfolding clear_pdu clear_asked clear_front pdu_of keys_of octets
  clear_is = rw transport_back

  opened_is :
      (credentials out : List ℕ) → take 33 credentials ≡ x.credential → pdu_octets ≤ length out
      → open_done credentials x.iv asked out ≡ lent (packed 0 1 (9 + length x.transport) 0) (onto (clear_asked x) out)
  unfolding open_done told
  opened_is credentials out e room =
      let o = opened_by_law (pieces credentials) (piece_count credentials) (first_piece credentials e) (some_piece credentials e) in
      let n = length_clear (get_or asked 0 0) header short (length_tab (λ i. get_or x.transport i 0) 16) in
      simp (le-ltb _ _ room, o)
      (ap₂ (λ (k : ℕ) (l : List ℕ). lent (packed 0 1 k 0) (onto l out)) n clear_is)

pub open_sealed : OpenSealed
open_sealed x credentials buffer out w e room room' =
    let s = sealed_is x w buffer room in
    let n = length (asked x w) in
    let number : (sealed x buffer).answer ≡ 65536 * n = ap (λ (l : Lent ℕ). l.answer) s in
    let len : (sealed x buffer).answer / 65536 ≡ n = omega arith in
    let pdu : take ((sealed x buffer).answer / 65536) (sealed x buffer).buffer ≡ asked x w =
    ap₂ (λ (k : ℕ) (l : List ℕ). take k l) len (ap (λ (l : Lent ℕ). l.buffer) s) ∙ take_at (asked x w) _ n refl in
    (omega arith, rw pdu (opened_is x w credentials out e room'))
