-- One thing holds exactly if another does: each follows from the other.
abbrev pub Exactly : Type 0 → Type 0 → Type 0
Exactly A B = (A → B) × (B → A)
