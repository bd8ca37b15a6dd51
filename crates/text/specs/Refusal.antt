-- A refusal's number in words.
--   refusal_text n   `refused N`, N in decimal
--   refused_text n   that, and a newline
use Rattle.std.specs.Prelude.{List, ◌++◌, ℕ}
use Rattle.text.specs.Number.{decimal_text}
use Rattle.text.specs.Octets.{octets}

abbrev pub refusal_text : ℕ → List ℕ
refusal_text n = octets "refused " ++ decimal_text n

abbrev pub refused_text : ℕ → List ℕ
refused_text n = refusal_text n ++ octets "\n"
