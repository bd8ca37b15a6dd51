-- `looking::put_cache` meets its contract: the places from the oldest on are written, and then those before it.
-- Assumes nothing.
use mathlib.Core.List.{List, ◌++◌}
use mathlib.Core.Path.{ap, ap₂, ◌∙◌}
use Prim.Native.Nat.{ℕ}
use Rattle.text.specs.Writer.{writing}
use Rattle.text.proofs.WriterLaws.{writing_then}
use Rattle.answers.specs.Looking.{placed_text, seen_text}
use Rattle.answers.proofs.PlacedLaws.{placed_apart}
use Rattle.answers.proofs.looking.put_cache.Goals as goal

pub returns : goal.returns
returns c =
    let halves = c.split_at in
    let both = placed_apart seen_text halves.result.1.now halves.result.0.now 0 0
    ∙ ap (placed_text (λ i e. seen_text e) 0) (ap₂ ◌++◌ halves.ensures.back halves.ensures.front) in
    let written = writing_then _ _ _ c.put_entries.ensures c.put_entries-2.ensures ∙ ap (λ (t : List ℕ). writing t c.put.new.self) both in
    writing_then _ _ _ c.put.ensures (writing_then _ _ _ written c.put-2.ensures)
