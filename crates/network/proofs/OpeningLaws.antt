-- Opening a PDU from the code's tests: each answer follows from the tests before it, and its number tells it from every other.
-- Key laws: `paper_apart`; the answers `open_..` of a call, each named for what is wrong. Assumes nothing.
use mathlib.Core.Bool.{true}
use mathlib.Core.List.{List, [], ◌∷◌}
use mathlib.Core.Path.{◌≡◌, refl, sym, ap, ◌∙◌}
use Prim.Native.Nat.{ℕ, ◌-◌, ◌/◌, ◌%◌, ◌≤◌, ◌<◌}
use lib.Dec.{eqb}
use lib.ListN.{length, get_or, drop}
use borrow.Author.Tests.{eq-eqb, ne_eqb, lt-ltb, le-ltb}
use Rattle.std.specs.Prelude.{Option, Some, None, Result, Ok, Err}
use Rattle.common.specs.Paper.{Paper, Refusal, Given}
use Rattle.common.proofs.PaperLaws.{told_apart, bit_back}
use Rattle.common.proofs.Tests.{by_test}
use Rattle.keys.specs.declared.NetworkKeys.{NetworkKeys}
use Rattle.network.specs.declared.header.Header.{Header}
use Rattle.network.specs.declared.opening.Refusal as refusal
use Rattle.network.specs.declared.opening.Refusal.TheVariants.{WrongLength, NoCandidate, NotAuthentic, WrongAddress}
use Rattle.network.specs.declared.opening.Opening.{Opening}
use Rattle.network.specs.declared.trial.Found.{Found}
use Rattle.network.specs.Candidates.{candidates, searched}
use Rattle.network.specs.IvIndex.{iv_index_heard}
use Rattle.network.specs.Opening.{Word, opened, paper, PaperApart, refused, judged, under, opening}
use Rattle.network.proofs.CandidatesLaws.{trials_none, trials_some}
use Rattle.network.specs.Pdu.{pdu_octets}

-- ---- how an answer is given
abbrev header_read : List ℕ → Header
header_read v =
    record {
      key = get_or v 0 0;
      iv = get_or v 1 0;
      ctl = eqb (get_or v 2 0) 1;
      ttl = get_or v 3 0;
      seq = get_or v 4 0;
      src = get_or v 5 0;
      dst = get_or v 6 0;
      len = get_or v 7 0;
      transport = drop 8 v;
    }

abbrev read : Paper Word → Result Header refusal.Refusal
read (Given opened v) = Ok (header_read v)
read (Refusal n v) = Err (get_or (WrongLength ∷ NoCandidate ∷ NotAuthentic ∷ []) (n - 1) WrongAddress)

back : (a : Result Header refusal.Refusal) → read (paper a) ≡ a
back (Ok h) = rw (bit_back h.ctl) refl
back (Err WrongLength) = refl
back (Err NoCandidate) = refl
back (Err NotAuthentic) = refl
back (Err WrongAddress) = refl

pub paper_apart : PaperApart
paper_apart = told_apart paper read back

-- how many keys have a PDU's NID
abbrev of_nid : List NetworkKeys → ℕ → List ℕ → ℕ
of_nid keys count pdu = length (candidates keys count (get_or pdu 0 0 % 128))

-- ---- refusals 1 and 2, then what the search gives
module _ (keys : List NetworkKeys) (count current : ℕ) (pdu : List ℕ) {r : Opening} where
  pub open_short : length pdu < 14 → r ≡ refused WrongLength 0 → r ≡ opening keys count current pdu
  unfolding opening
  open_short h e = rw (lt-ltb (length pdu) 14 h) e

  module _ (low : 14 ≤ length pdu) where
    pub open_long : pdu_octets < length pdu → r ≡ refused WrongLength 0 → r ≡ opening keys count current pdu
    unfolding opening
    open_long h e = rw (le-ltb (length pdu) 14 low, lt-ltb pdu_octets (length pdu) h) e

    module _ (high : length pdu ≤ pdu_octets) where
      -- without a candidate no IV Index counts
      pub open_foreign : true ≡ eqb (of_nid keys count pdu) 0 → r ≡ refused NoCandidate 0 → r ≡ opening keys count current pdu
      unfolding opening
      open_foreign n e = rw (le-ltb (length pdu) 14 low, le-ltb pdu_octets (length pdu) high, ← n) e

      module _ {x : Option ℕ} (ex : x ≡ iv_index_heard current (get_or pdu 0 0 / 128)) where
        -- with a candidate or with none: the refusal is the same
        pub open_no_index : x ≡ None → r ≡ refused NoCandidate 0 → r ≡ opening keys count current pdu
        unfolding opening under
        open_no_index n e =
            by_test (eqb (of_nid keys count pdu) 0)
            (λ t. rw (le-ltb (length pdu) 14 low, le-ltb pdu_octets (length pdu) high, t) e)
            (λ t. rw (le-ltb (length pdu) 14 low, le-ltb pdu_octets (length pdu) high, t, ← ex, n) e)

        module _ {iv : ℕ} {s : Found} (i : x ≡ Some iv) (q : s ≡ searched keys count (get_or pdu 0 0 % 128) iv pdu) where
          pub open_no_candidate : s.trials ≡ 0 → r ≡ refused NoCandidate 0 → r ≡ opening keys count current pdu
          open_no_candidate z =
              let n = trials_some keys count (get_or pdu 0 0 % 128) iv pdu (ap (λ (f : Found). f.trials) (sym q) ∙ z) in
              open_foreign (sym (eq-eqb (of_nid keys count pdu) 0 n))

          pub open_judged : (s.trials ≡ 0 → ⊥) → r ≡ judged s → r ≡ opening keys count current pdu
          unfolding opening under
          open_judged z e =
              let n : of_nid keys count pdu ≡ 0 → ⊥ = λ m. z (ap (λ (f : Found). f.trials) q ∙ trials_none keys count (get_or pdu 0 0 % 128) iv pdu m) in
              rw (le-ltb (length pdu) 14 low, le-ltb pdu_octets (length pdu) high, ne_eqb (of_nid keys count pdu) 0 n, ← ex, i, ← q) e

pub ruleset open_rules = (open_short, open_long, open_no_index, open_no_candidate, open_judged)
