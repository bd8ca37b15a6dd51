-- The two network keys of the crowd, and what they make of a PDU: computed from the definitions, cipher and all, in steps. What is derived of each key; the PDUs that the second seals; and
-- their trials by the first, which authenticates none. A message of at most sixteen octets is xored with one block of the stream, so each block is computed once. Assumes nothing.
use mathlib.Core.Bool.{Bool, true, false, ◌&&◌}
use mathlib.Core.List.{List, [], ◌∷◌, ◌++◌}
use mathlib.Core.Path.{◌≡◌, refl, ap, ◌∙◌}
use Prim.Native.Nat.{ℕ, ◌+◌, ◌-◌, ◌/◌, ◌%◌, ◌≤◌}
use native.Mathlib.Omega.{arith}
use lib.Bits.{bit_xor}
use lib.Dec.{ltb}
use lib.ListN.{length, get_or, take, drop}
use Rattle.std.specs.Prelude.{is_some}
use Rattle.common.specs.Lists.{padded, xored, same}
use Rattle.common.proofs.Lists.{tab_ext}
use Rattle.common.proofs.Tests.{by_test}
use Rattle.aes.specs.Field.{xtime}
use Rattle.aes.specs.Sbox.{sbox_table, sbox}
use Rattle.aes.specs.Cipher.{sub_bytes, shift_rows, three_times, mix_column, mix_columns, add_round_key, round, last_round, rounds, cipher}
use Rattle.aes.specs.KeyExpansion.{word_of, sub_word, rot_word, x_power, rcon, temp, w, four_words, round_key, key_schedule}
use Rattle.modes.specs.declared.ccm.MicSize.{MicSize}
use Rattle.modes.specs.declared.ccm.MicSize.TheVariants.{Eight}
use Rattle.modes.specs.Ccm.{mic_octets, ccm_block, first_block, mac_input, mac_block, stream, stream_octet, ctr, mic, sealed, decrypted}
use Rattle.modes.specs.Chain.{blocks, chain}
use Rattle.modes.specs.Cmac.{shift_left, const_rb, double, subkey1, subkey2, block_count, complete, last_block, cmac}
use Rattle.keys.specs.declared.NetworkKeys.{NetworkKeys}
use Rattle.keys.specs.Derivation.{mac, k2_t, k2_t1, k2_t2, k2_t3, k2}
use Rattle.keys.proofs.Salts.{salt_k2}
use Rattle.network.specs.declared.header.Header.{Header}
use Rattle.network.specs.Header.{transport_of}
use Rattle.network.specs.Nonce.{ctl_ttl, network_nonce}
use Rattle.network.specs.Octets.{octets, number_from, number}
use Rattle.network.specs.Pdu.{net_mic, first_octet, clear_front, privacy_block, obfuscated, body_of, pdu_of, front_of}
use Rattle.network.specs.Trial.{ctl_of, nonce_of, body_tried, tried}
use Rattle.crowd.specs.Crowd.{second_key, box_ttl, forged}
use Rattle.demands.specs.Instance.{network_key}

-- ---- what is derived
-- s1("smk2")
abbrev salt : List ℕ
salt = 0x4f ∷ 0x90 ∷ 0x48 ∷ 0x0c ∷ 0x18 ∷ 0x71 ∷ 0xbf ∷ 0xbf ∷ 0xfd ∷ 0x16 ∷ 0x97 ∷ 0x1f ∷ 0x4d ∷ 0x8d ∷ 0x10 ∷ 0xb1 ∷ []

-- k2 from its four CMACs: two on the way, and the two keys
record Derives (key t t1 : List ℕ) (keys : NetworkKeys) : Type 0 where
  t_is : mac salt key ≡ t
  t1_is : mac t (0x00 ∷ 0x01 ∷ []) ≡ t1
  t2_is : mac t (t1 ++ (0x00 ∷ 0x02 ∷ [])) ≡ keys.encryption
  t3_is : mac t (keys.encryption ++ (0x00 ∷ 0x03 ∷ [])) ≡ keys.privacy

derived : (key t t1 : List ℕ) (keys : NetworkKeys) → Derives key t t1 keys → k2 key ≡ record { nid = get_or t1 15 0 % 128; encryption = keys.encryption; privacy = keys.privacy }
unfolding k2 k2_t k2_t1 k2_t2 k2_t3
derived key t t1 keys d = rw (salt_k2, d.t_is, d.t1_is, d.t2_is, d.t3_is)

abbrev pub first_keys : NetworkKeys
first_keys =
    record {
      nid = 0x68;
      encryption = 0x09 ∷ 0x53 ∷ 0xfa ∷ 0x93 ∷ 0xe7 ∷ 0xca ∷ 0xac ∷ 0x96 ∷ 0x38 ∷ 0xf5 ∷ 0x88 ∷ 0x20 ∷ 0x22 ∷ 0x0a ∷ 0x39 ∷ 0x8e ∷ [];
      privacy = 0x8b ∷ 0x84 ∷ 0xee ∷ 0xde ∷ 0xc1 ∷ 0x00 ∷ 0x06 ∷ 0x7d ∷ 0x67 ∷ 0x09 ∷ 0x71 ∷ 0xdd ∷ 0x2a ∷ 0xa7 ∷ 0x00 ∷ 0xcf ∷ [];
    }

abbrev pub second_keys : NetworkKeys
second_keys =
    record {
      nid = 0x68;
      encryption = 0x8e ∷ 0xa6 ∷ 0x34 ∷ 0x25 ∷ 0xd0 ∷ 0xac ∷ 0x7f ∷ 0x3a ∷ 0xe6 ∷ 0x26 ∷ 0x6e ∷ 0x39 ∷ 0x4d ∷ 0xfe ∷ 0x1d ∷ 0xba ∷ [];
      privacy = 0xef ∷ 0xd9 ∷ 0x46 ∷ 0x99 ∷ 0xbf ∷ 0x3c ∷ 0x4f ∷ 0x70 ∷ 0xcd ∷ 0xcc ∷ 0xd9 ∷ 0x18 ∷ 0xc7 ∷ 0xeb ∷ 0x56 ∷ 0xdc ∷ [];
    }

record Macs : Type 0 where
  first :
      Derives network_key
      (0x39 ∷ 0x88 ∷ 0x5e ∷ 0x04 ∷ 0x63 ∷ 0xba ∷ 0xfd ∷ 0x54 ∷ 0xca ∷ 0x6e ∷ 0x49 ∷ 0x5b ∷ 0x10 ∷ 0x01 ∷ 0x51 ∷ 0x5a ∷ [])
      (0x88 ∷ 0xda ∷ 0xd4 ∷ 0x89 ∷ 0x2e ∷ 0x81 ∷ 0xfe ∷ 0xcb ∷ 0xe0 ∷ 0x61 ∷ 0xeb ∷ 0xd3 ∷ 0xfb ∷ 0x09 ∷ 0x32 ∷ 0x68 ∷ [])
      first_keys
  second :
      Derives second_key
      (0x9d ∷ 0xe4 ∷ 0x03 ∷ 0x83 ∷ 0x33 ∷ 0xf0 ∷ 0xec ∷ 0x90 ∷ 0xfc ∷ 0xac ∷ 0x76 ∷ 0xa7 ∷ 0xe0 ∷ 0xa6 ∷ 0x86 ∷ 0xb0 ∷ [])
      (0x85 ∷ 0x45 ∷ 0xfe ∷ 0x9d ∷ 0xc4 ∷ 0xd2 ∷ 0x64 ∷ 0x41 ∷ 0x1f ∷ 0x17 ∷ 0x8f ∷ 0xa1 ∷ 0x04 ∷ 0xbc ∷ 0x65 ∷ 0xe8 ∷ [])
      second_keys

macs : Macs
unfolding mac cmac last_block complete block_count subkey2 subkey1 double const_rb shift_left chain blocks
    key_schedule round_key four_words w temp rcon x_power rot_word sub_word word_of
    cipher rounds last_round round add_round_key mix_columns mix_column three_times shift_rows sub_bytes sbox sbox_table xtime xored
macs =
    record {
      first = record { t_is = refl; t1_is = refl; t2_is = refl; t3_is = refl };
      second = record { t_is = refl; t1_is = refl; t2_is = refl; t3_is = refl };
    }

pub first_is : k2 network_key ≡ first_keys
first_is = derived network_key _ _ first_keys macs.first

pub second_is : k2 second_key ≡ second_keys
second_is = derived second_key _ _ second_keys macs.second

-- ---- CCM of a short message
module _ (ks : List (List ℕ)) (nonce : List ℕ) where
  -- at most sixteen octets are xored with one block of the stream
  ctr_short : (m : List ℕ) → length m ≤ 16 → ctr ks nonce m ≡ xored (length m) m (stream ks nonce 1)
  unfolding ctr stream_octet xored
  ctr_short m h =
      tab_ext (λ j. bit_xor (get_or m j 0) (get_or (stream ks nonce (j / 16 + 1)) (j % 16) 0)) (λ j. bit_xor (get_or m j 0) (get_or (stream ks nonce 1) j 0)) (length m)
      (λ j b. let e : j / 16 + 1 ≡ 1 = omega arith in let f : j % 16 ≡ j = omega arith in rw (e, f) refl)

  module _ (size : MicSize) where
    -- the encrypted message and its MIC
    abbrev shut : List ℕ → List ℕ
    shut m = xored (length m) m (stream ks nonce 1) ++ mic ks nonce (mic_octets size) m

    sealed_short : (m : List ℕ) → length m ≤ 16 → sealed ks nonce size m ≡ shut m
    unfolding sealed
    sealed_short m h = ap (λ (x : List ℕ). x ++ mic ks nonce (mic_octets size) m) (ctr_short m h)

    -- what stands before the MIC, and whether the MIC is that of the result
    abbrev front : List ℕ → List ℕ
    front c = take (length c - mic_octets size) c

    abbrev verdict : List ℕ → Bool
    verdict c = same (mic ks nonce (mic_octets size) (xored (length (front c)) (front c) (stream ks nonce 1))) (drop (length c - mic_octets size) c)

    decrypted_short : (c : List ℕ) → length (front c) ≤ 16 → (decrypted ks nonce size c).answer ≡ verdict c
    unfolding decrypted
    decrypted_short c h = ap (λ (m : List ℕ). same (mic ks nonce (mic_octets size) m) (drop (length c - mic_octets size) c)) (ctr_short (front c) h)

-- ---- the PDUs that the second seals
-- both are of one speech, and differ in SEQ and transport PDU
abbrev header_with : (seq len : ℕ) → List ℕ → Header
header_with seq len octets =
    record { key = 1; iv = 0x12345678; ctl = true; ttl = box_ttl; seq = seq; src = 0x0008; dst = 0x0001; len = len; transport = padded 16 octets }

abbrev header0 : Header
header0 = header_with 0x000700 12 (0x92 ∷ 0x1c ∷ 0x00 ∷ 0x01 ∷ 0x3c ∷ 0x3c ∷ 0x3c ∷ 0x3c ∷ 0x3c ∷ 0x3c ∷ 0x3c ∷ 0x3c ∷ [])

abbrev pub pdu0 : List ℕ
pdu0 =
    0x68 ∷ 0x69 ∷ 0xcc ∷ 0x86 ∷ 0x7d ∷ 0x3f ∷ 0x3e ∷ 0xf7 ∷ 0xc7 ∷ 0xe8 ∷ 0xf6 ∷ 0x51 ∷ 0xd8 ∷ 0x20
    ∷ 0x32 ∷ 0x6d ∷ 0xac ∷ 0x54 ∷ 0x8d ∷ 0x62 ∷ 0x9a ∷ 0x6f ∷ 0xd9 ∷ 0xdd ∷ 0x60 ∷ 0x80 ∷ 0x0d ∷ 0x23 ∷ 0x33 ∷ []

abbrev header1 : Header
header1 = header_with 0x000701 5 (0x92 ∷ 0x1c ∷ 0x00 ∷ 0x21 ∷ 0x3c ∷ [])

abbrev pub pdu1 : List ℕ
pdu1 =
    0x68 ∷ 0x50 ∷ 0x28 ∷ 0xcf ∷ 0x41 ∷ 0x7d ∷ 0xa1 ∷ 0x83 ∷ 0xcc ∷ 0x2c ∷ 0x31 ∷ 0x23 ∷ 0xd0 ∷ 0x2d
    ∷ 0x90 ∷ 0xf6 ∷ 0xad ∷ 0xfd ∷ 0x17 ∷ 0x59 ∷ 0x1e ∷ 0x78 ∷ []

-- octets 1-6 that a key gives in clear: the first of each, and of the forged one the second
abbrev clear0 : List ℕ
clear0 = 0xd8 ∷ 0x32 ∷ 0x7b ∷ 0x60 ∷ 0x0a ∷ 0x6e ∷ []

abbrev clear1 : List ℕ
clear1 = 0x12 ∷ 0xdd ∷ 0x14 ∷ 0xb2 ∷ 0x2c ∷ 0xf6 ∷ []

abbrev clear_forged : List ℕ
clear_forged = 0x85 ∷ 0x00 ∷ 0x07 ∷ 0x01 ∷ 0x00 ∷ 0x08 ∷ []

-- the privacy keys' part: octets 1-6 hidden, and in clear
record Fronts : Type 0 where
  hidden_0 : obfuscated second_keys 0x12345678 (clear_front header0) (take 7 (drop 7 pdu0)) ≡ take 6 (drop 1 pdu0)
  hidden_1 : obfuscated second_keys 0x12345678 (clear_front header1) (take 7 (drop 7 pdu1)) ≡ take 6 (drop 1 pdu1)
  clear_0 : front_of first_keys 0x12345678 pdu0 ≡ clear0
  clear_1 : front_of first_keys 0x12345678 pdu1 ≡ clear1
  clear_first : front_of first_keys 0x12345678 forged ≡ clear1
  clear_second : front_of second_keys 0x12345678 forged ≡ clear_forged

fronts : Fronts
unfolding front_of obfuscated privacy_block clear_front ctl_ttl octets
    key_schedule round_key four_words w temp rcon x_power rot_word sub_word word_of
    cipher rounds last_round round add_round_key mix_columns mix_column three_times shift_rows sub_bytes sbox sbox_table xtime xored
fronts = record { hidden_0 = refl; hidden_1 = refl; clear_0 = refl; clear_1 = refl; clear_first = refl; clear_second = refl }

-- the encryption keys' part: a body sealed, as CTL 1 asks; and the verdict on one, by octets 1-6 in clear
abbrev nonce_for : Header → List ℕ
nonce_for h = network_nonce true h.ttl h.seq h.src h.iv

abbrev body_by : Header → List ℕ
body_by h = shut (key_schedule second_keys.encryption) (nonce_for h) Eight (octets 2 h.dst ++ transport_of h)

abbrev verdict_by : NetworkKeys → (clear pdu : List ℕ) → Bool
verdict_by keys clear pdu = verdict (key_schedule keys.encryption) (nonce_of 0x12345678 clear) (net_mic (ctl_of clear)) (drop 7 pdu)

record Bodies : Type 0 where
  body_0 : body_by header0 ≡ drop 7 pdu0
  body_1 : body_by header1 ≡ drop 7 pdu1
  false_0 : verdict_by first_keys clear0 pdu0 ≡ false
  false_1 : verdict_by first_keys clear1 pdu1 ≡ false
  false_first : verdict_by first_keys clear1 forged ≡ false
  false_second : verdict_by second_keys clear_forged forged ≡ false

bodies : Bodies
unfolding nonce_of number number_from ctl_ttl network_nonce octets mic stream mac_block mac_input first_block ccm_block chain blocks
    key_schedule round_key four_words w temp rcon x_power rot_word sub_word word_of
    cipher rounds last_round round add_round_key mix_columns mix_column three_times shift_rows sub_bytes sbox sbox_table xtime xored
bodies = record { body_0 = refl; body_1 = refl; false_0 = refl; false_1 = refl; false_first = refl; false_second = refl }

-- a PDU from its body, and from octets 1-6 as they are sent
pdu_by_law :
    (keys : NetworkKeys) (h : Header) (body hidden : List ℕ) → body_of keys h ≡ body → obfuscated keys h.iv (clear_front h) (take 7 body) ≡ hidden
    → pdu_of keys h ≡ first_octet h.iv keys.nid ∷ hidden ++ body
unfolding pdu_of
pdu_by_law keys h body hidden e f = rw (e, f)

body_by_law : (h : Header) → h.ctl ≡ true → length (octets 2 h.dst ++ transport_of h) ≤ 16 → body_of second_keys h ≡ body_by h
unfolding body_of
body_by_law h c short = rw c (sealed_short (key_schedule second_keys.encryption) (nonce_for h) Eight (octets 2 h.dst ++ transport_of h) short)

pub sealed_0 : pdu_of second_keys header0 ≡ pdu0
unfolding first_octet octets
sealed_0 = pdu_by_law second_keys header0 (drop 7 pdu0) (take 6 (drop 1 pdu0)) (body_by_law header0 refl (omega arith) ∙ bodies.body_0) fronts.hidden_0

pub sealed_1 : pdu_of second_keys header1 ≡ pdu1
unfolding first_octet octets
sealed_1 = pdu_by_law second_keys header1 (drop 7 pdu1) (take 6 (drop 1 pdu1)) (body_by_law header1 refl (omega arith) ∙ bodies.body_1) fronts.hidden_1

-- ---- a key that does not authenticate a PDU
unauthentic :
    (keys : NetworkKeys) (place : ℕ) (pdu clear : List ℕ) → front_of keys 0x12345678 pdu ≡ clear
    → length (front (key_schedule keys.encryption) (nonce_of 0x12345678 clear) (net_mic (ctl_of clear)) (drop 7 pdu)) ≤ 16 → verdict_by keys clear pdu ≡ false
    → is_some (tried keys place 0x12345678 pdu) ≡ false
unfolding tried body_tried
unauthentic keys place pdu clear e h v =
    let d = decrypted_short (key_schedule keys.encryption) (nonce_of 0x12345678 clear) (net_mic (ctl_of clear)) (drop 7 pdu) h ∙ v in
    rw e (by_test (ctl_of clear && ltb (length pdu) 18) (λ t. rw t refl) (λ t. rw (t, d) refl))

pub tried_0 : is_some (tried first_keys 0 0x12345678 pdu0) ≡ false
tried_0 = unauthentic first_keys 0 pdu0 clear0 fronts.clear_0 (omega arith) bodies.false_0

pub tried_1 : is_some (tried first_keys 0 0x12345678 pdu1) ≡ false
tried_1 = unauthentic first_keys 0 pdu1 clear1 fronts.clear_1 (omega arith) bodies.false_1

pub forged_first : is_some (tried first_keys 0 0x12345678 forged) ≡ false
forged_first = unauthentic first_keys 0 forged clear1 fronts.clear_first (omega arith) bodies.false_first

pub forged_second : is_some (tried second_keys 1 0x12345678 forged) ≡ false
forged_second = unauthentic second_keys 1 forged clear_forged fronts.clear_second (omega arith) bodies.false_second
