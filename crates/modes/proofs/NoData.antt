-- `SealNoData`, `OpenNoData`: where the length is 0 the flag is not set and no block stands between B_0 and the message, so the same blocks are authenticated;
-- all else is made of these. Key laws: `seal_no_data`, `open_no_data`; `sealed_none`, `decrypted_none`.
-- Assumes nothing.
use mathlib.Core.Path.{◌≡◌}
use mathlib.Core.Bool.{false}
use mathlib.Core.List.{List}
use Prim.Native.Nat.{ℕ}
use native.Mathlib.Nat.{zero-add}
use native.Mathlib.Omega.{arith}
use borrow.Author.Tests.{eq-eqb, le-ltb}
use lib.Dec.{ltb}
use lib.ListN.{length}
use Rattle.modes.specs.declared.ccm.MicSize.{MicSize}
use Rattle.modes.specs.Ccm.{mic_octets, first_block, mac_input, mac_block, mic, sealed, sealing, decrypted, opening}
use Rattle.modes.specs.Ccm.{longest_data, first_block_with, data_blocks, mac_input_with, mac_block_with, mic_with, sealed_with, sealing_with, decrypted_with, opening_with}
use Rattle.modes.specs.NoData.{SealNoData, OpenNoData}

module _ (ks : List (List ℕ)) (nonce a : List ℕ) (none : length a ≡ 0) where
  input_none : (t : ℕ) (m : List ℕ) → mac_input_with nonce t a m ≡ mac_input nonce t m
  unfolding mac_input_with mac_input first_block_with first_block data_blocks
  input_none t m = rw (eq-eqb (length a) 0 none, zero-add)

  mic_none : (t : ℕ) (m : List ℕ) → mic_with ks nonce t a m ≡ mic ks nonce t m
  unfolding mic_with mic mac_block_with mac_block
  mic_none t m = rw (input_none t m)

  not_much : ltb longest_data (length a) ≡ false
  not_much = le-ltb longest_data (length a) (omega arith)

  pub sealed_none : (size : MicSize) (m : List ℕ) → sealed_with ks nonce size a m ≡ sealed ks nonce size m
  unfolding sealed_with sealed
  sealed_none size m = rw (mic_none (mic_octets size) m)

  pub decrypted_none : (size : MicSize) (c : List ℕ) → decrypted_with ks nonce size a c ≡ decrypted ks nonce size c
  unfolding decrypted_with decrypted
  decrypted_none size c = rw (mic_none (mic_octets size) _)

pub seal_no_data : SealNoData
unfolding sealing_with sealing
seal_no_data ks nonce size a m buf none = rw (not_much ks nonce a none, sealed_none ks nonce a none size m)

pub open_no_data : OpenNoData
unfolding opening_with opening
open_no_data ks nonce size a c buf none = rw (not_much ks nonce a none, decrypted_none ks nonce a none size c)
