-- What a speech is cut from has an octet, 384 at most, and makes 32 chunks at most: a secured message is longer than its payload, and 32 chunks of 12 are 384, of
-- 8 are 256. So SegN is below 32, each chunk up to SegN has an octet, and all before it are full. Assumes nothing.
--   WordsFit, cut_fits             words of a length that fits are cut so
--   Cut, cut                       an octet, 384 at most, 32 chunks at most
--   size_bounds                    a chunk has 1 to 12 octets
--   cut_is                         what is cut, by the words
--   last_count, last_low           SegN is one less than the chunks, and below 32
--   part, part_bounds, part_full   chunk i, and how long it is
--   cut_low, cut_bounds            the same of what is cut
use mathlib.Core.List.{List}
use mathlib.Core.Path.{◌≡◌, refl, ap}
use Prim.Native.Nat.{ℕ, ◌+◌, ◌≤◌, ◌<◌}
use native.Mathlib.Omega.{arith}
use lib.ListN.{length}
use Rattle.common.specs.Chunks.{chunk, chunk_count}
use Rattle.common.proofs.Chunks.{chunk_full, chunk_some}
use Rattle.common.proofs.Tests.{by_test}
use Rattle.transport.specs.declared.securing.Envelope.{Envelope}
use Rattle.transport.specs.declared.securing.MessageKey.TheVariants.{Application, Device}
use Rattle.transport.specs.Securing.{secured}
use Rattle.transport.specs.Segment.{message_octets, full_octets}
use Rattle.transport.proofs.SecureOpen.{secured_length}
use Rattle.transport.proofs.SegmentLaws.{count_last}
use Rattle.node.specs.declared.addresses.Node.{Node}
use Rattle.demands.specs.Speech.{Words, Access, Control, Speech, is_control, cut_of, octets_of, size_of, last_of, Fits, WordsRead, Speakable}

pub record Cut (node : Node) (s : Speech) : Type 0 where
  pub some : 1 ≤ length (octets_of node s)
  pub most : length (octets_of node s) ≤ message_octets
  pub few : chunk_count (size_of s) (length (octets_of node s)) ≤ 32

-- their length: a payload, and 384 octets at most once it is secured; parameters, and 256 at most
abbrev pub WordsFit : Node → Speech → Words → Type 0
WordsFit node s (Access key szmic payload) = Fits payload (octets_of node s) message_octets
WordsFit node s (Control opcode parameters) = Fits parameters parameters 256

pub size_bounds : (s : Speech) → (1 ≤ size_of s) × (size_of s ≤ 12)
size_bounds s = by_test (is_control s.words) (λ t. rw t (omega arith, omega arith)) (λ t. rw t (omega arith, omega arith))

module _ (node : Node) (s : Speech) where
  pub cut_is : (ws : Words) → s.words ≡ ws → octets_of node s ≡ cut_of node s ws
  unfolding octets_of
  cut_is ws e = ap (cut_of node s) e

  -- a secured message is longer than its payload
  secured_some : (key : List ℕ) (e : Envelope) (label payload : List ℕ) → 1 ≤ length payload → 1 ≤ length (secured key e label payload)
  secured_some key e label payload h = let l = secured_length key e label payload in omega arith

  cut_as : (ws : Words) → s.words ≡ ws → WordsFit node s ws → Cut node s
  cut_as (Access key szmic payload) e w =
      let c = cut_is (Access key szmic payload) e in
      let m = w.enough in
      record {
        some = rw c (secured_some _ _ _ payload w.some);
        most = m;
        few = rw (ap (λ (x : Words). full_octets (is_control x)) e) (omega arith);
      }
  cut_as (Control code parameters) e w =
      let c = cut_is (Control code parameters) e in
      let m = w.enough in
      record {
        some = rw c w.some;
        most = rw c (omega arith);
        few = rw (ap (λ (x : Words). full_octets (is_control x)) e, c) (omega arith);
      }

  pub cut_fits : WordsFit node s s.words → Cut node s
  cut_fits w = cut_as s.words refl w

  -- words that are read fit
  fits_read : (ws : Words) → WordsRead node s ws → WordsFit node s ws
  fits_read (Access (Application i) szmic payload) w = w.0
  fits_read (Access Device szmic payload) w = w.0
  fits_read (Control code parameters) w = w.0

  -- chunk i
  abbrev pub part : ℕ → List ℕ
  part i = chunk (size_of s) (octets_of node s) i

  module _ (c : Cut node s) where
    cut_count : last_of node s + 1 ≡ chunk_count (size_of s) (length (octets_of node s))
    unfolding last_of
    cut_count = let e = count_last (size_of s) (length (octets_of node s)) (size_bounds s).0 c.some in omega arith

    pub cut_low : last_of node s < 32
    cut_low = let l = cut_count in let f = c.few in omega arith

    pub cut_bounds : (i : ℕ) → i ≤ last_of node s → (1 ≤ length (part i)) × (length (part i) ≤ size_of s)
    cut_bounds i there = chunk_some (size_of s) (octets_of node s) i (let l = cut_count in omega arith)

  module _ (w : Speakable node s) where
    pub cut : Cut node s
    cut = cut_fits (fits_read s.words w.words_read)

    pub last_count : last_of node s + 1 ≡ chunk_count (size_of s) (length (octets_of node s))
    last_count = cut_count cut

    pub last_low : last_of node s < 32
    last_low = cut_low cut

    module _ (i : ℕ) (there : i ≤ last_of node s) where
      pub part_bounds : (1 ≤ length (part i)) × (length (part i) ≤ size_of s)
      part_bounds = cut_bounds cut i there

      pub part_full : i < last_of node s → length (part i) ≡ size_of s
      part_full h = chunk_full (size_of s) (octets_of node s) i (let l = last_count in omega arith)
