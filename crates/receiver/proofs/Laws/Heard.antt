-- A call refuses before the cache and leaves everything, or the PDU passes: the tests in front are walked once. One that opens and is in the cache leaves everything; one
-- that passes, and is for this node, leaves what the message of its form leaves. Assumes nothing.
--   early, late                   the refusals before the cache, 16, 1 to 5 and 22, and behind it, 6 to 13
--   Stops                         what is known of a PDU that is refused so
--   walk_hearing                  what holds of each such refusal, and of what a PDU leaves that passes, holds of the call
--   heard_unopened                one that does not open is refused so
--   heard_closed                  and as its opening is
--   heard_own                     one that opens and is ours
--   heard_again                   one that opens, is of another node, and in the cache
--   heard_elsewhere, heard_new    one that passes: it is not for this node, or taken by its form
--   heard_forwarded, heard_kept   what it forwards
use mathlib.Core.Bool.{Bool, true, false, ◌&&◌, ◌||◌, false≢true}
use mathlib.Core.List.{List}
use mathlib.Core.Path.{◌≡◌, refl, sym, ap, ◌∙◌}
use Prim.Native.Nat.{ℕ, ◌≤◌}
use borrow.Author.Tests.{le-ltb, ltb-false}
use lib.Dec.{eqb, leb, ltb}
use lib.ListN.{length}
use Rattle.std.specs.Prelude.{Result, Ok, Err}
use Rattle.common.specs.Lent.{Lent, lent}
use Rattle.common.specs.Paper.{number_of}
use Rattle.common.proofs.Tests.{by_choice}
use Rattle.network.specs.declared.header.Header.{Header}
use Rattle.network.specs.declared.opening.Refusal as network_refusal
use Rattle.network.specs.declared.opening.Refusal.TheVariants as network
use Rattle.network.specs.declared.opening.Opening.{Opening}
use Rattle.network.specs.Opening as opened
use Rattle.network.specs.Opening.{opening}
use Rattle.network.specs.Sealing.{sealed_length, forwards, forwarding}
use Rattle.network.specs.Pdu.{pdu_octets}
use Rattle.transport.specs.Form.{form_of}
use Rattle.transport.specs.Segment.{message_octets}
use Rattle.memory.specs.Cache.{seen, remembered}
use Rattle.node.specs.Addresses.{is_local, for_node}
use Rattle.receiver.specs.declared.answer.Refusal.{Refusal}
use Rattle.receiver.specs.declared.answer.Refusal.TheVariants as refusal
use Rattle.receiver.specs.declared.answer.Taken.{Taken}
use Rattle.receiver.specs.declared.state.Receiver.{Receiver}
use Rattle.receiver.specs.Answer.{refusal_number}
use Rattle.receiver.specs.Hearing.{Outcome, outcome, refused_heard, relayed, taken_as, taken_by, passed, passed_by, uncached_by, voiced, voiced_by, opened_as, opened_as_by, hearing, hearing_by}
use Rattle.receiver.specs.Passing.{Opens, Ours, Passes}
use Rattle.receiver.specs.State.{with_cache}
use Rattle.receiver.specs.Whole.{refused_at}

-- 16, 1 to 5 and 22
abbrev pub early : Refusal → Bool
early n = eqb (refusal_number n) 16 || (eqb (refusal_number n) 22 || leb (refusal_number n) 5)

-- 6 to 13
abbrev pub late : Refusal → Bool
late n = leb 6 (refusal_number n) && leb (refusal_number n) 13

-- refusal n, and everything as it was
pub record Refuses (r : Receiver) (fwd msg : List ℕ) (n : Refusal) (o : Outcome) : Type 0 where
  pub is_early : early n ≡ true
  pub tried : ℕ
  pub leaves : o ≡ outcome (refused_heard r n tried) fwd msg

-- one of them
abbrev pub Early : Receiver → List ℕ → List ℕ → Outcome → Type 0
Early r fwd msg o = (n : Refusal) × Refuses r fwd msg n o

abbrev pub opening_of : Receiver → List ℕ → Opening
opening_of r pdu = opening r.node.materials r.node.networks r.node.iv pdu

-- the receiver with the PDU of a header in its cache
abbrev pub caching : Receiver → Header → Receiver
caching r h = with_cache r (remembered r.cache h)

module _ (r : Receiver) (fwd msg pdu : List ℕ) where
  abbrev o : Opening
  o = opening_of r pdu

  -- the buffers are long enough, and it opens to a header
  pub opens_so :
      {h : Header} → ltb (length fwd) pdu_octets ≡ false → ltb (length msg) message_octets ≡ false → o.opened ≡ Ok h → Opens r pdu fwd msg o.trials h
  opens_so t u e =
      record {
        wide = ltb-false (length fwd) pdu_octets t;
        big = ltb-false (length msg) message_octets u;
        opens = ap (λ (x : Result Header network_refusal.Refusal). record { trials = o.trials; opened = x }) e;
      }

  -- it passes, and opens to a header
  abbrev pub PassesSo : Header → Type 0
  PassesSo h = Passes r pdu fwd msg o.trials h

  pub record Stops (n : Refusal) : Type 0 where
    pub is_early : early n ≡ true
    -- 22 is for what is ours
    pub if_own : n ≡ refusal.OwnSource → (h : Header) × Ours r pdu fwd msg o.trials h

  stops : (n : Refusal) → early n ≡ true → eqb (refusal_number n) 22 ≡ false → Stops n
  stops n e other = record { is_early = e; if_own = λ k. absurd (false≢true (sym other ∙ ap (λ (x : Refusal). eqb (refusal_number x) 22) k)) }

  module _ (P : Outcome → Type 0) (refuses : (n : Refusal) (trials : ℕ) → Stops n → P (outcome (refused_heard r n trials) fwd msg)) where
    walk_opened :
        (x : Result Header network_refusal.Refusal) (trials : ℕ)
        → ((h : Header) → x ≡ Ok h → is_local r.node h.src ≡ true → Stops refusal.OwnSource)
        → ((h : Header) → x ≡ Ok h → is_local r.node h.src ≡ false → seen r.cache h ≡ false → P (passed r h trials fwd msg))
        → P (opened_as x r trials fwd msg)
    unfolding opened_as_by voiced_by uncached_by
    walk_opened (Err network.WrongLength) trials g f = refuses refusal.WrongLength trials (stops refusal.WrongLength refl refl)
    walk_opened (Err network.NoCandidate) trials g f = refuses refusal.NoCandidate trials (stops refusal.NoCandidate refl refl)
    walk_opened (Err network.NotAuthentic) trials g f = refuses refusal.NotAuthentic trials (stops refusal.NotAuthentic refl refl)
    walk_opened (Err network.WrongAddress) trials g f = refuses refusal.WrongAddress trials (stops refusal.WrongAddress refl refl)
    walk_opened (Ok h) trials g f =
        by_choice P (is_local r.node h.src) (λ t. refuses refusal.OwnSource trials (g h refl t))
        (λ t. by_choice P (seen r.cache h) {y = passed r h trials fwd msg} (λ _. refuses refusal.Cached trials (stops refusal.Cached refl refl)) (f h refl t))

    pub walk_hearing : ((h : Header) → PassesSo h → P (passed r h o.trials fwd msg)) → P (hearing r pdu fwd msg)
    unfolding hearing_by
    walk_hearing passes =
        by_choice P (ltb (length fwd) pdu_octets) (λ _. refuses refusal.ShortBuffer 0 (stops refusal.ShortBuffer refl refl))
        (λ t. by_choice P (ltb (length msg) message_octets) (λ _. refuses refusal.ShortBuffer 0 (stops refusal.ShortBuffer refl refl))
        (λ u. walk_opened o.opened o.trials
        (λ h e own. record { is_early = refl; if_own = λ _. (h, record { opened = opens_so t u e; own = own }) })
        (λ h e other new. passes h (record { opened = opens_so t u e; other = other; new = new }))))

  pub heard_unopened : ((h : Header) → o.opened ≡ Ok h → ⊥) → Early r fwd msg (hearing r pdu fwd msg)
  heard_unopened n =
      walk_hearing (Early r fwd msg) (λ n trials s. (n, record { is_early = s.is_early; tried = trials; leaves = refl }))
      (λ h p. absurd (n h (ap (λ (x : Opening). x.opened) p.opened.opens)))

  -- ---- one that does not open: it carries the number of its opening, with its trials
  abbrev pub RefusedAs : Result Header network_refusal.Refusal → ℕ → Outcome → Type 0
  RefusedAs a trials x = (n : Refusal) × (refusal_number n ≡ number_of (opened.paper a)) × (x ≡ outcome (refused_heard r n trials) fwd msg)

  closed_as : (a : Result Header network_refusal.Refusal) (trials : ℕ) → ((h : Header) → a ≡ Ok h → ⊥) → RefusedAs a trials (opened_as a r trials fwd msg)
  unfolding opened_as_by
  closed_as (Err network.WrongLength) trials f = (refusal.WrongLength, refl, refl)
  closed_as (Err network.NoCandidate) trials f = (refusal.NoCandidate, refl, refl)
  closed_as (Err network.NotAuthentic) trials f = (refusal.NotAuthentic, refl, refl)
  closed_as (Err network.WrongAddress) trials f = (refusal.WrongAddress, refl, refl)
  closed_as (Ok h) trials f = absurd (f h refl)

  pub heard_closed :
      pdu_octets ≤ length fwd → message_octets ≤ length msg → ((h : Header) → o.opened ≡ Ok h → ⊥) → RefusedAs o.opened o.trials (hearing r pdu fwd msg)
  unfolding hearing_by
  heard_closed wide big n = rw (le-ltb (length fwd) pdu_octets wide, le-ltb (length msg) message_octets big) (closed_as o.opened o.trials n)

-- ---- a PDU that opens
-- what the call leaves is t, and the trials are those of opening it and those of its message
pub record Leaves (r : Receiver) (pdu fwd msg : List ℕ) (trials : ℕ) (t : Lent Taken) : Type 0 where
  pub answers : (hearing r pdu fwd msg).heard.answer ≡ t.answer.answer
  pub left_is : (hearing r pdu fwd msg).heard.receiver ≡ t.answer.receiver
  pub message_is : (hearing r pdu fwd msg).message ≡ t.buffer
  pub network_is : (hearing r pdu fwd msg).heard.network ≡ trials
  pub application_is : (hearing r pdu fwd msg).heard.application ≡ t.answer.trials

module _ {r : Receiver} {pdu fwd msg : List ℕ} {trials : ℕ} {h : Header} where
  heard_opened : Opens r pdu fwd msg trials h → hearing r pdu fwd msg ≡ voiced r h trials fwd msg
  unfolding hearing_by opened_as_by
  heard_opened p = rw (le-ltb (length fwd) pdu_octets p.wide, le-ltb (length msg) message_octets p.big, p.opens) refl

  pub heard_own : Ours r pdu fwd msg trials h → hearing r pdu fwd msg ≡ outcome (refused_heard r refusal.OwnSource trials) fwd msg
  unfolding voiced_by
  heard_own p = heard_opened p.opened ∙ rw p.own refl

  pub heard_again :
      Opens r pdu fwd msg trials h → is_local r.node h.src ≡ false → seen r.cache h ≡ true
      → hearing r pdu fwd msg ≡ outcome (refused_heard r refusal.Cached trials) fwd msg
  unfolding voiced_by uncached_by
  heard_again p other e = heard_opened p ∙ rw (other, e) refl

  -- ---- it passes
  module _ (p : Passes r pdu fwd msg trials h) where
    pub heard_passed : hearing r pdu fwd msg ≡ passed r h trials fwd msg
    unfolding voiced_by uncached_by
    heard_passed = heard_opened p.opened ∙ rw (p.other, p.new) refl

    -- whatever becomes of its message, it is sealed again where it is to be forwarded, and else the forward buffer stays
    abbrev goes_on : Bool
    goes_on = forwards r.node.relay (is_local r.node h.dst) h

    abbrev forwarded_is : Lent ℕ → Type 0
    forwarded_is f = lent (hearing r pdu fwd msg).heard.forwarded (hearing r pdu fwd msg).forward ≡ f

    pub heard_forwarded :
        goes_on ≡ true → (let f = forwarding r.node.materials h fwd in forwarded_is (lent (sealed_length f.answer) f.buffer))
    unfolding passed_by relayed
    heard_forwarded t = rw (heard_passed, t) refl

    pub heard_kept : goes_on ≡ false → forwarded_is (lent 0 fwd)
    unfolding passed_by relayed
    heard_kept t = rw (heard_passed, t) refl

    -- it is not for this node
    pub heard_elsewhere : for_node r.node h.dst ≡ false → Leaves r pdu fwd msg trials (lent (refused_at (caching r h) refusal.NotForNode 0) msg)
    unfolding passed_by taken_by
    heard_elsewhere f =
        record {
          answers = rw (heard_passed, f) refl;
          left_is = rw (heard_passed, f) refl;
          message_is = rw (heard_passed, f) refl;
          network_is = rw heard_passed refl;
          application_is = rw (heard_passed, f) refl;
        }

    -- it is for this node: it is taken by its form
    pub heard_new : for_node r.node h.dst ≡ true → (t : Lent Taken) → taken_as (form_of h) (caching r h) h msg ≡ t → Leaves r pdu fwd msg trials t
    unfolding passed_by taken_by
    heard_new f t g =
        record {
          answers = rw (heard_passed, f) (ap (λ (x : Lent Taken). x.answer.answer) g);
          left_is = rw (heard_passed, f) (ap (λ (x : Lent Taken). x.answer.receiver) g);
          message_is = rw (heard_passed, f) (ap (λ (x : Lent Taken). x.buffer) g);
          network_is = rw heard_passed refl;
          application_is = rw (heard_passed, f) (ap (λ (x : Lent Taken). x.answer.trials) g);
        }
