-- A row of PDUs, heard one after the other: the next PDU of what is left of it, and one hearing more.
-- Assumes nothing.
use mathlib.Core.Path.{◌≡◌, sym, ap, ◌∙◌}
use mathlib.Core.List.{List, ◌++◌}
use Prim.Native.Nat.{ℕ, ◌+◌, ◌*◌, ◌≤◌}
use native.Mathlib.Numerals.{add-one}
use native.Mathlib.Omega.{arith}
use lib.ListN.{length, take, drop, replicate}
use lib.Seq.{drop-drop}
use Rattle.std.proofs.Math.Seq.{take-append_seam, drop-append_seam}
use Rattle.std.proofs.lemmas.List.{length-append, length-drop}
use Rattle.network.specs.Pdu.{pdu_octets}
use Rattle.receiver.specs.declared.answer.Heard.{Heard}
use Rattle.receiver.specs.declared.state.Receiver.{Receiver}
use Rattle.receiver.specs.Hearing.{outcome, hearing}
use Rattle.speed.specs.Hearing.{accepted, row, pdu_at, heard_row}

-- x is cut off what is left behind k PDUs
pub next_is :
    (pdus : List ℕ) (k : ℕ) (x rest : List ℕ) {left : List ℕ} → left ≡ drop (pdu_octets * k) pdus → left ≡ x ++ rest → length x ≡ pdu_octets
    → (x ≡ pdu_at pdus k) × (rest ≡ drop (pdu_octets * (k + 1)) pdus) × (pdu_octets * (k + 1) ≤ length pdus)
next_is pdus k x rest behind cut whole =
    let parts = sym cut ∙ behind in
    let lengths = sym (length-append x rest) ∙ ap length parts ∙ length-drop (pdu_octets * k) pdus in
    let one_more : pdu_octets * k + pdu_octets ≡ pdu_octets * (k + 1) = omega arith in (
      sym (take-append_seam x rest) ∙ ap (λ n. take n (x ++ rest)) whole ∙ ap (take pdu_octets) parts,
      sym (drop-append_seam x rest)
          ∙ ap (λ n. drop n (x ++ rest)) whole
          ∙ ap (drop pdu_octets) parts
          ∙ drop-drop pdu_octets (pdu_octets * k) pdus
          ∙ ap (λ n. drop n pdus) one_more,
      omega arith,
    )

pub row_more :
    (r : Receiver) (pdus msg : List ℕ) (i : ℕ) {q : Receiver} {count : ℕ} {left : List ℕ} → row q count left ≡ heard_row r pdus msg i
    → {pdu : List ℕ} → pdu ≡ pdu_at pdus i → {h : Heard} {fwd msg' : List ℕ} → outcome h fwd msg' ≡ hearing q pdu (replicate pdu_octets 0) left
    → {a : ℕ} → a ≡ accepted h.answer → row h.receiver (count + a) msg' ≡ heard_row r pdus msg (i + 1)
unfolding heard_row
row_more r pdus msg i p ep q ea = rw (add-one i, ← p, ← ep, ← q, ea)
