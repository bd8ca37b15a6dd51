-- A message that is kept stays sendable: beginning makes it so, an acknowledgement changes only what is heard of it or ends it, and nothing else writes it. So its segments are those of what
-- is kept, by the definition that they are sent by, and vetting approves exactly such. Assumes nothing.
use mathlib.Core.Bool.{true, false, true≢false}
use mathlib.Core.List.{List, [], ◌∷◌}
use mathlib.Core.Path.{◌≡◌, refl, sym, ap, ◌∙◌, subst}
use Prim.Native.Nat.{ℕ, suc, ◌%◌}
use Rattle.std.specs.Prelude.{Ok}
use Rattle.common.specs.Lent.{lent}
use Rattle.common.specs.Lists.{tab, onto}
use Rattle.transport.specs.Listed.{written}
use Rattle.transport.specs.Segment.{full_octets, segment_at}
use Rattle.transport.specs.VettedExactly.{Are}
use Rattle.transport.proofs.ListedLaws.{list_reads_back}
use Rattle.transport.proofs.VettedExactly.{approves_exactly}
use Rattle.memory.specs.declared.outgoing.Outgoing.{Outgoing}
use Rattle.memory.specs.Outgoing.{no_outgoing, with_heard}
use Rattle.receiver.proofs.Laws.Fresh.{fresh_is}
use Rattle.receiver.specs.declared.state.Receiver.{Receiver}
use Rattle.receiver.specs.Good.{Good}
use Rattle.receiver.proofs.Laws.Outgoing.{outgoing_heard}
use Rattle.sending.specs.declared.request.Request.{Request}
use Rattle.sending.specs.Segment.{segment_pdu}
use Rattle.sending.specs.Sendable.{kept_octets, Sendable}
use Rattle.demands.specs.Call.{Call, Outcome, left_said, step, after}
use Rattle.demands.specs.GoesOut.{StaysKept}
use Rattle.demands.specs.Interleaved.{start}
use Rattle.demands.specs.OwnSegments.{SendableIfKept, SendableStep, SendableAfter, segments_kept, OwnApproved, KeptAsSaid}
use Rattle.demands.specs.ReadBack.{goes_whole, said_by}
use Rattle.demands.specs.Speech.{Words, octets_of}
use Rattle.demands.proofs.Begun.{keeping, holds_after, kept_after}
use Rattle.demands.proofs.GoesOut.{shared_itself}
use Rattle.demands.proofs.Left.{walk_step}
use Rattle.demands.proofs.SentLaws.{Way, Whole, Begun, way, sending_as, step_is}

-- ---- kept by every call
none_sendable : SendableIfKept no_outgoing
none_sendable z = absurd (z refl)

-- what is heard of it is no part of that
still_sendable : (o : Outgoing) (heard : ℕ) → SendableIfKept o → SendableIfKept (with_heard o heard)
still_sendable o heard s z =
    let x = s z in
    record { octets_places = x.octets_places; len_is = x.len_is; allowed = x.allowed; seg_n_is = x.seg_n_is }

pub sendable_step : SendableStep
sendable_step r c g =
    walk_step r (λ (q : Receiver). SendableIfKept q.out)
    (record {
      hears = λ pdu fwd msg. outgoing_heard SendableIfKept r none_sendable g (λ heard. still_sendable r.out heard g) fwd msg pdu;
      frees = λ _ _. g;
      speaks = record { stays = g; sends = λ _ _. g; begins = λ _ _ _ b _. b.sendable; ends = none_sendable };
    }) c

sendable_run : (r : Receiver) (l : List Call) → SendableIfKept r.out → SendableIfKept (after r l).out
sendable_run r [] g = g
sendable_run r (c ∷ l) g = sendable_run (step r c).receiver l (sendable_step r c g)

pub sendable_after : SendableAfter
sendable_after s l e = sendable_run (start s) l (rw (fresh_is s) none_sendable)

-- ---- a sendable message's segments are approved
segments_are : (o : Outgoing) → Sendable o → Are o.terms.ctl (kept_octets o) (segments_kept o)
unfolding segment_pdu
segments_are o s =
    let size = full_octets o.terms.ctl in
    record {
      c = o.terms.first;
      z = o.terms.szmic;
      q = o.auth.seq % 8192;
      allowed = s.allowed;
      are = ap (λ (n : ℕ). tab (segment_at size o.terms.first o.terms.szmic (o.auth.seq % 8192) n (kept_octets o)) (suc n)) (sym s.seg_n_is);
    }

pub own_approved : OwnApproved
own_approved s l buf e h z =
    let o = (after (start s) l).out in
    let x = sendable_after s l e z in
    (approves_exactly o.terms.ctl (written (segments_kept o)) buf (kept_octets o) h).1
    (subst (Are o.terms.ctl (kept_octets o)) (sym (list_reads_back (segments_kept o))) (segments_are o x))
    ∙ ap (λ (n : ℕ). lent (Ok n) (onto (kept_octets o) buf)) x.len_is

-- ---- what is kept is what was said
module _ (sender : Receiver) (good : Good sender) (q : Request) (words : Words) (buf : List ℕ) (l : List Call) (w : goes_whole words ≡ false) where
  abbrev Said : Outcome → Type 0
  Said x = StaysKept x.receiver l → kept_octets (after x.receiver l).out ≡ octets_of sender.node (said_by sender q words)

  said_way : Way sender q words (sending_as sender q words buf) → Said (left_said (sending_as sender q words buf))
  said_way (Whole a v g) e = absurd (true≢false (sym v ∙ w))
  said_way (Begun a v g) e =
      let node = sender.node in
      let same = shared_itself node in
      let h = holds_after sender good node same q words a buf g l e in
      ap kept_octets (h.still (kept_after sender good node same q words a buf g l e)) ∙ (keeping sender good node same q words a).octets_are

pub kept_as_said : KeptAsSaid
kept_as_said sender q words buf l good sent w kept =
    let e = step_is sender q words buf in
    let made = subst (λ (x : Outcome). x.made ≡ true) e sent in
    subst (Said sender good q words buf l w) (sym e) (said_way sender good q words buf l w (way sender q words buf made)) kept
