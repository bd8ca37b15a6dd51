-- The premises of demand 2 hold of a message to a label where the receiver holds another of the same address before it. The two addresses are computed, cipher and all, and so are the
-- two MICs, which differ: so the first label does not open what is sent to the second. Assumes nothing.
use mathlib.Core.Bool.{Bool, true, false, true≢false}
use mathlib.Core.List.{List, [], ◌∷◌}
use mathlib.Core.Path.{◌≡◌, refl, sym, ap, ◌∙◌, subst, ap₂}
use Prim.Native.Nat.{ℕ, zero, suc, ◌+◌, ◌-◌, ◌≤◌, min}
use native.Mathlib.Omega.{arith}
use borrow.Author.Tests.{eq-eqb, lt-ltb}
use lib.Dec.{eqb, ltb}
use lib.ListN.{length, replicate}
use Rattle.std.specs.Prelude.{Ok}
use Rattle.common.specs.Lent.{Lent}
use Rattle.common.specs.Lists.{xored, same, joined}
use Rattle.common.specs.Search.{first, picked}
use Rattle.common.proofs.Tests.{by_choice}
use Rattle.aes.specs.Field.{xtime}
use Rattle.aes.specs.Sbox.{sbox_table, sbox}
use Rattle.aes.specs.Cipher.{sub_bytes, shift_rows, three_times, mix_column, mix_columns, add_round_key, round, last_round, rounds, cipher}
use Rattle.aes.specs.KeyExpansion.{word_of, sub_word, rot_word, x_power, rcon, temp, w, four_words, round_key, key_schedule}
use Rattle.modes.specs.declared.ccm.MicSize.{MicSize}
use Rattle.modes.specs.declared.ccm.MicSize.TheVariants.{Four}
use Rattle.modes.specs.Ccm.{mic_octets, longest, longest_data, ccm_block, stream, first_block_with, data_blocks, mac_input_with, mac_block_with, mic_with, sealed_with, decrypted_with, opening_with}
use Rattle.modes.specs.Chain.{blocks, chain}
use Rattle.modes.specs.Cmac.{shift_left, const_rb, double, subkey1, subkey2, block_count, complete, last_block, cmac}
use Rattle.modes.proofs.RoundTrip.{decrypted_otherwise}
use Rattle.keys.specs.Derivation.{mac, label_hash, label_address}
use Rattle.keys.proofs.Salts.{salt_vtad}
use Rattle.network.specs.Address.{kind_of, is_reserved}
use Rattle.network.specs.Nonce.{message_nonce}
use Rattle.network.specs.Octets.{octets}
use Rattle.transport.specs.declared.securing.Envelope.{Envelope}
use Rattle.transport.specs.declared.securing.LabelUuid.{LabelUuid}
use Rattle.transport.specs.declared.securing.MessageKey.TheVariants.{Application}
use Rattle.transport.specs.declared.securing.Opener.TheVariants as opener
use Rattle.transport.specs.SecureOpen.{place_of}
use Rattle.transport.specs.Securing.{label_places, application_key_at, label_at, message_nonce_of, secured, opened_by, fits_key}
use Rattle.transport.specs.Securing.{application_candidates, label_candidates, is_virtual, pairs_under, pairs, opens_message, no_label}
use Rattle.node.specs.declared.addresses.Node.{Node}
use Rattle.node.specs.Addresses.{is_local, holds_label, for_node, held_by, listens}
use Rattle.node.specs.Setup.{bound_within, keys_valid, next_within, elements_valid, groups_valid, index_valid, valid, network_key_at, material_at, bound_key_at, group_at, label_uuid_at, next_at}
use Rattle.node.specs.Setup.{node_of, next_of, making}
use Rattle.receiver.specs.Fresh.{setting_up}
use Rattle.receiver.proofs.Good.{good_fresh}
use Rattle.sending.specs.Access.{is_whole, size_allowed, access_allowed}
use Rattle.sending.specs.Request.{request_allowed}
use Rattle.sending.specs.Transmission.{sending_iv, address_of, next_seq}
use Rattle.network.specs.IvIndex.{iv_index_sent}
use Rattle.demands.specs.GoesOut.{accepted, pdu_count}
use Rattle.demands.specs.Instance.{application_key, short, lent_pdu}
use Rattle.demands.specs.Interleaved as scene
use Rattle.demands.specs.Interleaved.{start}
use Rattle.demands.specs.ReadBack.{Shared, OwnMessageFirst, Between, goes_whole}
use Rattle.demands.specs.Speech.{envelope_of, octets_of, label_place, opener_of}
use Rattle.demands.proofs.GoesOut.{goes_out}
use Rattle.demands.proofs.SpeechCut.{cut_is}
use Rattle.crowd.specs.Labels.{first_label, second_label, mast, shelter, to_label, said, LabelsMet}
use Rattle.common.proofs.Search.{first_upto}
use Rattle.node.proofs.AddressesLaws.{no_relays, answers_label, for_answered}

-- ---- the two addresses
-- s1("vtad")
abbrev salt : List ℕ
salt = 0xce ∷ 0xf7 ∷ 0xfa ∷ 0x9d ∷ 0xc4 ∷ 0x7b ∷ 0xaf ∷ 0x5d ∷ 0xaa ∷ 0xee ∷ 0xd1 ∷ 0x94 ∷ 0x06 ∷ 0x09 ∷ 0x4f ∷ 0x37 ∷ []

record Hashes : Type 0 where
  first_hash : mac salt first_label ≡ 0x81 ∷ 0xd6 ∷ 0xfb ∷ 0x04 ∷ 0xbd ∷ 0x6d ∷ 0x64 ∷ 0x7f ∷ 0x3a ∷ 0xdb ∷ 0x94 ∷ 0x68 ∷ 0x7e ∷ 0xc6 ∷ 0x7b ∷ 0xc8 ∷ []
  second_hash : mac salt second_label ≡ 0x02 ∷ 0x34 ∷ 0x75 ∷ 0x7e ∷ 0xbe ∷ 0x5f ∷ 0x81 ∷ 0x93 ∷ 0xca ∷ 0x2a ∷ 0xf3 ∷ 0x88 ∷ 0x3c ∷ 0xdd ∷ 0xfb ∷ 0xc8 ∷ []

hashes : Hashes
unfolding mac cmac last_block complete block_count subkey2 subkey1 double const_rb shift_left chain blocks
    key_schedule round_key four_words w temp rcon x_power rot_word sub_word word_of
    cipher rounds last_round round add_round_key mix_columns mix_column three_times shift_rows sub_bytes sbox sbox_table xtime xored
hashes = record { first_hash = refl; second_hash = refl }

first_address : label_address first_label ≡ 0xBBC8
unfolding label_address label_hash
first_address = rw (salt_vtad, hashes.first_hash) refl

second_address : label_address second_label ≡ 0xBBC8
unfolding label_address label_hash
second_address = rw (salt_vtad, hashes.second_hash) refl

-- ---- the two nodes
mast_ready : (setting_up mast).answer ≡ Ok tt
unfolding setting_up making valid keys_valid bound_within elements_valid next_within groups_valid index_valid first kind_of
mast_ready = refl

shelter_ready : (setting_up shelter).answer ≡ Ok tt
unfolding setting_up making valid keys_valid bound_within elements_valid next_within groups_valid index_valid first kind_of
shelter_ready = refl

abbrev sender : Node
sender = (start mast).node

abbrev node : Node
node = scene.node_of shelter

record Held : Type 0 where
  one_application : node.applications ≡ 1
  bound_there : (application_key_at node.appkeys 0).bound ≡ 0
  key_there : (application_key_at node.appkeys 0).key ≡ application_key
  two_labels : node.labelled ≡ 2
  first_there : label_at node.labels 0 ≡ record { octets = first_label; address = label_address first_label }
  second_there : label_at node.labels 1 ≡ record { octets = second_label; address = label_address second_label }
  place_is : label_place node second_label ≡ 1
  label_sent : label_at sender.labels 0 ≡ record { octets = second_label; address = label_address second_label }
  other_node : is_local node (address_of sender 0) ≡ false
  none_sent : next_seq (start mast) 0 ≡ 0
  index_sent_law : sending_iv sender ≡ 0x12345678
  address_sent : address_of sender 0 ≡ 0x0002

holds : Held
unfolding setting_up making valid keys_valid bound_within elements_valid next_within groups_valid index_valid first kind_of node_of bound_key_at label_uuid_at label_place address_of is_local next_of
    next_at sending_iv iv_index_sent
holds =
    record {
      one_application = refl;
      bound_there = refl;
      key_there = refl;
      two_labels = refl;
      first_there = refl;
      second_there = refl;
      place_is = refl;
      label_sent = refl;
      other_node = refl;
      none_sent = refl;
      index_sent_law = refl;
      address_sent = refl;
    }

same_keys : Shared sender node
unfolding setting_up making valid keys_valid bound_within elements_valid next_within groups_valid index_valid first kind_of node_of bound_key_at network_key_at material_at
same_keys = record { networks_same = refl; materials_same = refl; applications_same = refl; appkeys_same = refl; device_same = refl; iv_same = refl }

-- ---- the message
dst_is : said.dst ≡ 0xBBC8
dst_is = ap (λ (l : LabelUuid). l.address) holds.label_sent ∙ second_address

label_is : said.label ≡ second_label
label_is = ap (λ (l : LabelUuid). l.octets) holds.label_sent

virtual : is_virtual said.dst ≡ true
unfolding is_virtual kind_of
virtual = rw dst_is refl

by_second : opener_of node said (Application 0) ≡ opener.Labelled 0 1
by_second = rw (virtual, label_is, holds.place_is) refl

abbrev e : Envelope
e = envelope_of node said (Application 0) false

-- both labels have the address, so that both pairs are tried
fits : fits_key e (application_key_at node.appkeys 0) ≡ true
fits = let aid = (application_key_at node.appkeys 0).aid in rw (eq-eqb aid aid refl, holds.bound_there) refl

has_first : eqb (label_at node.labels 0).address said.dst ≡ true
has_first = eq-eqb _ _ (ap (λ (l : LabelUuid). l.address) holds.first_there ∙ first_address ∙ sym dst_is)

has_second : eqb (label_at node.labels 1).address said.dst ≡ true
has_second = eq-eqb _ _ (ap (λ (l : LabelUuid). l.address) holds.second_there ∙ second_address ∙ sym dst_is)

pairs_are : pairs (held_by node) e ≡ opener.Labelled 0 0 ∷ opener.Labelled 0 1 ∷ []
unfolding pairs application_candidates pairs_under label_candidates joined picked
pairs_are = rw (holds.one_application, holds.two_labels) (rw (fits, virtual, has_first, has_second) refl)

place_second : place_of (held_by node) e (opener_of node said (Application 0)) ≡ 1
unfolding place_of first
place_second = rw (by_second, pairs_are) refl

-- ---- the first label does not open it
not_opened :
    (ks : List (List ℕ)) (nonce : List ℕ) (size : MicSize) (a c buf : List ℕ) → (decrypted_with ks nonce size a c).answer ≡ false
    → (opening_with ks nonce size a c buf).answer ≡ false
unfolding opening_with
not_opened ks nonce size a c buf f =
    let P : Lent Bool → Type 0 = λ r. r.answer ≡ false in
    let n = length c - mic_octets size in
    by_choice P (ltb longest_data (length a)) (λ t. refl)
    (λ t. by_choice P (ltb (length c) (mic_octets size)) (λ u. refl)
    (λ u. by_choice P (ltb longest n) (λ v. refl)
    (λ v. by_choice P (ltb (length buf) n) (λ x. refl)
    (λ x. by_choice P (decrypted_with ks nonce size a c).answer (λ y. absurd (true≢false (sym y ∙ f))) (λ y. refl)))))

abbrev nonce : List ℕ
nonce = 0x01 ∷ 0x00 ∷ 0x00 ∷ 0x00 ∷ 0x00 ∷ 0x00 ∷ 0x02 ∷ 0xbb ∷ 0xc8 ∷ 0x12 ∷ 0x34 ∷ 0x56 ∷ 0x78 ∷ []

abbrev payload : List ℕ
payload = replicate 8 0x21

differ : same (mic_with (key_schedule application_key) nonce 4 first_label payload) (mic_with (key_schedule application_key) nonce 4 second_label payload) ≡ false
unfolding mic_with mac_block_with mac_input_with data_blocks first_block_with stream ccm_block chain blocks
    key_schedule round_key four_words w temp rcon x_power rot_word sub_word word_of
    cipher rounds last_round round add_round_key mix_columns mix_column three_times shift_rows sub_bytes sbox sbox_table xtime xored
differ = refl

nonce_is : message_nonce_of e ≡ nonce
unfolding message_nonce_of message_nonce octets
nonce_is = rw (dst_is, holds.none_sent, holds.address_sent, holds.index_sent_law) refl

octets_are : octets_of node said ≡ secured application_key e second_label payload
octets_are = cut_is node said short refl ∙ ap₂ (λ (key label : List ℕ). secured key e label payload) holds.key_there label_is

fails_so : (msg : List ℕ) → (opened_by application_key e first_label (secured application_key e second_label payload) msg).answer ≡ false
unfolding opened_by secured
fails_so msg =
    let ks = key_schedule application_key in
    let c = sealed_with ks nonce Four second_label payload in
    let wrong : (decrypted_with ks nonce Four first_label c).answer ≡ false =
    sym (ap (λ (r : Lent Bool). r.answer) (decrypted_otherwise ks nonce Four first_label second_label payload)) ∙ differ in
    subst (λ (n : List ℕ). (opening_with ks n Four first_label (sealed_with ks n Four second_label payload) msg).answer ≡ false) (sym nonce_is)
    (not_opened ks nonce Four first_label c msg wrong)

first_fails : (msg : List ℕ) → opens_message (held_by node) e (octets_of node said) msg (opener.Labelled 0 0) ≡ false
first_fails msg =
    let label = ap (λ (l : LabelUuid). l.octets) holds.first_there in
    ap₂ (λ (key octets : List ℕ). (opened_by key e octets (octets_of node said) msg).answer) holds.key_there label
    ∙ ap (λ (c : List ℕ). (opened_by application_key e first_label c msg).answer) octets_are ∙ fails_so msg

own_first : OwnMessageFirst node said short
own_first msg zero h = rw pairs_are (first_fails msg)
own_first msg (suc j) h = let p = place_second in absurd (omega arith)

-- ---- the premises
record Elsewhere : Type 0 where
  not_reserved : is_reserved 0xBBC8 ≡ false
  not_local : is_local node 0xBBC8 ≡ false
  not_listened : listens node 0xBBC8 ≡ false

elsewhere : Elsewhere
unfolding setting_up making valid keys_valid bound_within elements_valid next_within groups_valid index_valid first kind_of node_of group_at is_reserved is_local listens
elsewhere = record { not_reserved = refl; not_local = refl; not_listened = refl }

held_there : holds_label node said.dst ≡ true
unfolding holds_label
held_there =
    let has : LabelUuid → Bool = λ l. eqb l.address said.dst in
    let two = holds.two_labels in
    lt-ltb (first has node.labels) (min node.labelled label_places) (omega (arith, first_upto has node.labels 0 no_label has_first))

for_here : for_node node said.dst ≡ true
for_here =
    let a = said.dst in
    let d = dst_is in
    let free = ap is_reserved d ∙ elsewhere.not_reserved in
    let far = ap (is_local node) d ∙ elsewhere.not_local in
    let alone = ap (listens node) d ∙ elsewhere.not_listened in
    sym
    (for_answered node a refl free
    (answers_label node a refl far (λ h. absurd (omega arith)) (no_relays node a (λ h. absurd (omega arith))) refl alone (sym held_there)))

between : Between (start mast) shelter to_label short
between =
    record {
      good = good_fresh mast mast_ready;
      ready = shelter_ready;
      shared = same_keys;
      other_node = holds.other_node;
      for_here = for_here;
      dst_fits = let d = dst_is in omega arith;
      holds_label_law = λ _. record { sixteen = ap length label_is; held = rw (label_is, holds.place_is, holds.two_labels) (omega arith) };
      own_message_first = own_first;
    }

allowed : accepted (start mast) to_label short ≡ true
unfolding setting_up making valid keys_valid bound_within elements_valid next_within groups_valid index_valid first kind_of node_of bound_key_at access_allowed request_allowed size_allowed is_whole
allowed = refl

whole : goes_whole short ≡ true
unfolding is_whole
whole = refl

numbers_left : next_seq (start mast) 0 + pdu_count sender said ≤ 0x1000000
numbers_left = let n = holds.none_sent in rw whole (omega arith)

pub labels_met : LabelsMet
labels_met =
    record {
      one_address = first_address ∙ sym second_address;
      two_labels = refl;
      telling =
          record {
            between = between;
            sent = (goes_out (start mast) to_label short lent_pdu (good_fresh mast mast_ready) allowed (omega arith) numbers_left).0;
            hears = (
              record {
                comes = record { place_there = omega arith; own_key_first = λ j b. absurd (omega arith) };
                room_forward = omega arith;
                room_message = omega arith;
              },
              tt {0},
            );
          };
      by_second = by_second;
      second_trial = ap (λ (k : ℕ). k + 1) place_second;
    }
