-- Promises: with no additional data CCM seals and opens as the definitions without it say.
use Rattle.std.specs.Prelude.{◌≡◌, List, ℕ, length}
use Rattle.modes.specs.declared.ccm.MicSize.{MicSize}
use Rattle.modes.specs.Ccm.{sealing, opening, sealing_with, opening_with}

abbrev pub SealNoData : Type 0
SealNoData =
    (ks : List (List ℕ)) (nonce : List ℕ) (size : MicSize) (a m buf : List ℕ) → length a ≡ 0
    → sealing_with ks nonce size a m buf ≡ sealing ks nonce size m buf

abbrev pub OpenNoData : Type 0
OpenNoData =
    (ks : List (List ℕ)) (nonce : List ℕ) (size : MicSize) (a c buf : List ℕ) → length a ≡ 0
    → opening_with ks nonce size a c buf ≡ opening ks nonce size c buf
