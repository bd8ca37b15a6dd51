-- E4 to E12: each example is computed. A list of 42 octets is cut by its length alone.
-- Assumes nothing.
use mathlib.Core.List.{List, [], ◌∷◌, map}
use mathlib.Core.Path.{◌≡◌, refl}
use Prim.Native.Nat.{ℕ}
use lib.ListN.{length, length-take, length-drop}
use Rattle.common.specs.Bits.{has_bit, with_bit, all_bits}
use Rattle.common.specs.Chunks.{chunks}
use Rattle.network.specs.Octets.{octets}
use Rattle.transport.specs.SeqAuth.{seq_auth}
use Rattle.transport.specs.Segment.{access_octet, segment_number, segment_front, acknowledgement_number, acknowledgement_octets}
use Rattle.transport.specs.Examples.{Examples}

cut_access : (l : List ℕ) → length l ≡ 42 → map length (chunks 12 l) ≡ 12 ∷ 12 ∷ 12 ∷ 6 ∷ []
cut_access l e = simp (e, length-take, length-drop)

cut_control : (l : List ℕ) → length l ≡ 42 → map length (chunks 8 l) ≡ 8 ∷ 8 ∷ 8 ∷ 8 ∷ 8 ∷ 2 ∷ []
cut_control l e = simp (e, length-take, length-drop)

pub examples : Examples
unfolding seq_auth access_octet segment_number segment_front acknowledgement_number acknowledgement_octets octets has_bit with_bit all_bits
examples = (refl, (refl, (refl, (refl, (refl, (refl, (cut_access, (cut_control, (refl, tt)))))))))
