-- The rules by which `gorephan_open` answers: `open_short`, `pdu_short`, `pdu_long`, `pdu_foreign`, `open_refused`, `open_written`; and that its parts fit their places in the number.
-- Assumes nothing.
use mathlib.Core.Bool.{Bool, true}
use mathlib.Core.List.{List}
use mathlib.Core.Path.{◌≡◌, refl, sym, ap, ◌∙◌}
use Prim.Native.Nat.{ℕ, ◌%◌, ◌≤◌, ◌<◌}
use native.Mathlib.Omega.{arith}
use borrow.Author.Tests.{lt-ltb, le-ltb}
use lib.Dec.{eqb}
use lib.ListN.{length, get_or}
use Rattle.std.specs.Prelude.{Ok, Err}
use Rattle.common.specs.Lent.{Lent, lent}
use Rattle.common.specs.Lists.{onto}
use Rattle.common.specs.Paper.{number_of}
use Rattle.keys.specs.declared.NetworkKeys.{NetworkKeys}
use Rattle.network.specs.declared.header.Header.{Header}
use Rattle.network.specs.declared.opening.Opening.{Opening}
use Rattle.network.specs.declared.opening.Refusal.{Refusal}
use Rattle.network.specs.declared.opening.Refusal.TheVariants.{WrongLength, NoCandidate, NotAuthentic, WrongAddress}
use Rattle.network.specs.Candidates.{candidates}
use Rattle.network.specs.Opening.{paper, opening}
use Rattle.network.proofs.OpeningBounds.{LowHeader, Bounded, opening_bounded}
use Rattle.network.proofs.OpeningLaws as network
use Rattle.network.specs.Pdu.{pdu_octets}
use Rattle.radio.specs.ClearPdu.{clear_pdu}
use Rattle.radio.specs.Credential.{pieces, piece_count}
use Rattle.radio.specs.Open.{packed, told, open_done}

pub paper_most : (r : Refusal) → number_of (paper (Err r)) ≤ 4
paper_most WrongLength = omega arith
paper_most NoCandidate = omega arith
paper_most NotAuthentic = omega arith
paper_most WrongAddress = omega arith

-- and an opened header
pub header_small : {o : Opening} {h : Header} → Bounded o → o.opened ≡ Ok h → LowHeader h
header_small b e = rw e at b.header_most

-- what an opening tells is small
pub opened_small :
    (held : List NetworkKeys) (count iv : ℕ) (pdu : List ℕ) {o : Opening} → o ≡ opening held count iv pdu → Bounded o
opened_small held count iv pdu e = rw e (opening_bounded held count iv pdu)

module _ (credentials : List ℕ) (iv : ℕ) (pdu out : List ℕ) where
  pub open_short : length out < pdu_octets → lent 16 out ≡ open_done credentials iv pdu out
  unfolding open_done
  open_short h = simp (lt-ltb _ _ h)

  -- refused before a key is read
  module _ (room : pdu_octets ≤ length out) where
    early : {o : Opening} → o ≡ opening (pieces credentials) (piece_count credentials) iv pdu → told (get_or pdu 0 0) out o ≡ open_done credentials iv pdu out
    unfolding open_done
    early e = simp (le-ltb _ _ room, e)

    pub pdu_short : length pdu < 14 → lent 1 out ≡ open_done credentials iv pdu out
    unfolding told
    pdu_short h = early (network.open_short (pieces credentials) (piece_count credentials) iv pdu h refl)

    module _ (low : 14 ≤ length pdu) where
      pub pdu_long : pdu_octets < length pdu → lent 1 out ≡ open_done credentials iv pdu out
      unfolding told
      pdu_long h = early (network.open_long (pieces credentials) (piece_count credentials) iv pdu low h refl)

      pub pdu_foreign :
          {b : Bool} → length pdu ≤ pdu_octets → b ≡ eqb (length (candidates (pieces credentials) (piece_count credentials) (get_or pdu 0 0 % 128))) 0 → b ≡ true
          → lent 2 out ≡ open_done credentials iv pdu out
      unfolding told
      pdu_foreign high e t = early (network.open_foreign (pieces credentials) (piece_count credentials) iv pdu low high (sym t ∙ e) refl)

  module _ {held : List NetworkKeys} {count : ℕ} {o : Opening} (eh : held ≡ pieces credentials) (ec : count ≡ piece_count credentials)
      (eo : o ≡ opening held count iv pdu) where
    module _ (room : pdu_octets ≤ length out) where
      open_told : told (get_or pdu 0 0) out o ≡ open_done credentials iv pdu out
      unfolding open_done
      open_told = simp (le-ltb _ _ room, eo, eh, ec)

      pub open_refused :
          {refusal : Refusal} {n r : ℕ} → o.opened ≡ Err refusal → n ≡ number_of (paper (Err refusal)) → r ≡ packed n o.trials 0 0
          → lent r out ≡ open_done credentials iv pdu out
      unfolding told
      open_refused e en er = rw (er, en) (rw e at open_told)

      -- left is the lent buffer at exit
      pub open_written :
          {h : Header} {first octets r : ℕ} {left : List ℕ} → o.opened ≡ Ok h → first ≡ get_or pdu 0 0
          → lent octets left ≡ lent (length (clear_pdu first h)) (onto (clear_pdu first h) out)
          → r ≡ packed 0 o.trials octets h.key → lent r left ≡ open_done credentials iv pdu out
      unfolding told
      open_written {h} {first} {octets} {r} {left} e ef ew er =
          let el = ap (λ (w : Lent ℕ). w.answer) ew ∙ ap (λ (x : ℕ). length (clear_pdu x h)) ef in
          let eb = ap (λ (w : Lent ℕ). w.buffer) ew ∙ ap (λ (x : ℕ). onto (clear_pdu x h) out) ef in
          rw (er, el, eb) (rw e at open_told)

pub ruleset open_rules = (open_short, pdu_short, pdu_long, pdu_foreign, open_refused, open_written)
