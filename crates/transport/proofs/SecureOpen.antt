-- `UnsecureSecure`: no pair before it authenticates the message and the pair does (`open_seal_with` of CCM), so the trials end at it, behind as many as stand before it.
-- `OpenedByFirst` and `NoneOpened` are read off the trials of a list. The bounds hold of each way of the definition: places among four keys and four labels, trials that
-- end among the pairs, and a cipher that opens at most 384 octets and else keeps the buffer; 16 was tested for.
-- Assumes nothing.
use mathlib.Core.Bool.{Bool, true, false, true≢false}
use mathlib.Core.List.{List, [], ◌∷◌}
use mathlib.Core.Path.{◌≡◌, refl, sym, ap, subst, ◌∙◌}
use Prim.Native.Nat.{ℕ, ◌+◌, ◌*◌, ◌-◌, ◌<◌, ◌≤◌, min}
use native.Mathlib.Omega.{arith}
use borrow.Author.Tests.{ltb-true, le-ltb, eq-eqb}
use lib.Dec.{eqb, ltb}
use lib.ListN.{length}
use Rattle.std.specs.Prelude.{Result, Ok, Err, is_ok}
use Rattle.common.specs.Lent.{Lent, lent}
use Rattle.common.specs.Lists.{onto, joined}
use Rattle.common.specs.Paper.{number_of}
use Rattle.common.specs.Search.{first, picked}
use Rattle.common.specs.Trials.{Succeeded, tries}
use Rattle.common.proofs.Joined.{All, all_get, all_map, all_joined, all_picked, tries_all, length_joined, found_at, found_picked, found_mapped}
use Rattle.common.proofs.Picked.{places, length_places, length_picked, picked_split}
use Rattle.common.proofs.Same.{same_refl, same_eq}
use Rattle.common.proofs.Search.{first_passes}
use Rattle.common.proofs.Tests.{by_choice}
use Rattle.common.proofs.Trials.{NoneOpens, tries_each, tries_opens_at}
use Rattle.aes.specs.KeyExpansion.{key_schedule}
use Rattle.modes.specs.Ccm.{mic_octets, longest_data}
use Rattle.modes.proofs.Opened.{opening_left}
use Rattle.modes.proofs.RoundTrip.{sealed_with_length, open_seal_with}
use Rattle.transport.specs.declared.securing.Envelope.{Envelope}
use Rattle.transport.specs.declared.securing.Held.{Held}
use Rattle.transport.specs.declared.securing.Opened.{Opened}
use Rattle.transport.specs.declared.securing.Opener.{Opener}
use Rattle.transport.specs.declared.securing.Opener.TheVariants.{Application, Labelled, Device}
use Rattle.transport.specs.declared.securing.Unopened.{Unopened}
use Rattle.transport.specs.declared.securing.Unopened.TheVariants.{NotOpened, ShortBuffer}
use Rattle.transport.specs.Securing.{application_key_places, label_places, trans_mic, message_nonce_of, secured, opened_by, label_at}
use Rattle.transport.specs.Securing.{application_candidates, label_candidates, is_virtual, pairs_under, pairs, key_by, additional_by, opened_by_pair, opens_message}
use Rattle.transport.specs.Securing.{opened, message_by, by_application_keys, by_device_key, unsecuring, opener_values, paper, trials_of}
use Rattle.transport.specs.SecureOpen.{SecuredLength, Fits, same_opener, place_of, pair_at, Receives, UnsecureSecure, UnsecureSecureDevice, FirstToOpen, OpenedByFirst}
use Rattle.transport.specs.SecureOpen.{NoneOpened, TrialsMost, Stands, MessageStands, Low, PlaceLow, RefusedKeeps}
use Rattle.transport.specs.Segment.{message_octets}
use Rattle.transport.proofs.PaperLaws.{opener_apart}
use Rattle.transport.proofs.SecuringLaws.{fits_at, pairs_under_most, open_application, open_device, device_opens}

pub secured_length : SecuredLength
unfolding secured
secured_length key e a m = sealed_with_length (key_schedule key) (message_nonce_of e) (trans_mic e.szmic) a m

-- a key and additional data open what they secured
opened_secured :
    (key : List ℕ) (e : Envelope) (a m buf : List ℕ) → Fits m buf → length a ≤ longest_data → opened_by key e a (secured key e a m) buf ≡ lent true (onto m buf)
unfolding opened_by secured
opened_secured key e a m buf f n =
    open_seal_with (key_schedule key) (message_nonce_of e) (trans_mic e.szmic) a m buf n f.short (omega (arith, f.short, f.room))

-- what is secured is long enough, and its message as long as it was
module _ (key : List ℕ) (e : Envelope) (a m buf : List ℕ) (f : Fits m buf) where
  long_enough : 1 + mic_octets (trans_mic e.szmic) ≤ length (secured key e a m)
  long_enough = omega (arith, secured_length key e a m, f.some_payload)

  message_length : length m ≡ length (secured key e a m) - mic_octets (trans_mic e.szmic)
  message_length = omega (arith, secured_length key e a m)

-- ---- the pair opens the message, and none before it: the trials end at it
pair_there : (held : Held) (e : Envelope) (x : Opener) → place_of held e x < length (pairs held e) → pair_at held e (place_of held e x) ≡ x
unfolding place_of
pair_there held e x h =
    sym (opener_apart x (pair_at held e (first (same_opener x) (pairs held e)))
    (same_eq (opener_values x) (opener_values (pair_at held e (first (same_opener x) (pairs held e)))) (first_passes (same_opener x) (pairs held e) Device h)))

module _ (held : Held) (x : Opener) (e : Envelope) (c buf : List ℕ) where
  ends_at : Receives held x e c buf → opens_message held e c buf x ≡ true → tries (opens_message held e c buf) (pairs held e) ≡ Succeeded x (place_of held e x + 1)
  ends_at r o =
      let at = pair_there held e x r.tried in
      tries_opens_at (opens_message held e c buf) Device (pairs held e) (place_of held e x)
      (record { within = r.tried; passes = ap (opens_message held e c buf) at ∙ o; none_before = r.none_before })
      ∙ ap (λ (y : Opener). Succeeded y (place_of held e x + 1)) at

  by_pair_at :
      (len : ℕ) {left : List ℕ} → Receives held x e c buf → opened_by_pair held e c buf x ≡ lent true left → len ≡ length c - mic_octets (trans_mic e.szmic)
      → by_application_keys held e c buf ≡ lent (opened x (place_of held e x + 1) len) left
  unfolding by_application_keys
  by_pair_at len r o l = rw (ends_at r (ap (λ (v : Lent Bool). v.answer) o), o, l)

pub unsecure_secure : UnsecureSecure
unsecure_secure held x e m buf f n r =
    let key = key_by held x in
    let a = additional_by held x in
    let c = secured key e a m in
    sym
    (open_application held e c buf f.room (long_enough key e a m buf f) r.akf_set
    (sym (by_pair_at held x e c buf (length m) r (opened_secured key e a m buf f n) (message_length key e a m buf f))))

pub unsecure_secure_device : UnsecureSecureDevice
unsecure_secure_device held e m buf f t =
    let c = secured held.device e [] m in
    sym
    (open_device held e c buf f.room (long_enough held.device e [] m buf f) t
    (device_opens held.device e c buf (sym (opened_secured held.device e [] m buf f (omega arith))) (message_length held.device e [] m buf f) refl))

-- ---- a key that fits is tried, alone or with each label of DST
module _ (held : Held) (e : Envelope) (i : ℕ) (h : i < min held.applications application_key_places) (t : fits_at held e i ≡ true) where
  pub tried_alone : is_virtual e.dst ≡ false → place_of held e (Application i) < length (pairs held e)
  unfolding place_of pairs application_candidates pairs_under
  tried_alone v =
      found_picked (same_opener (Application i)) (fits_at held e) (min held.applications application_key_places) i h t (pairs_under held e.dst)
      (rw v (found_at (same_opener (Application i)) (Application i ∷ []) 0 Device (omega arith) (same_refl (opener_values (Application i)))))

  -- the first key is tried first
  pub tried_first : i ≡ 0 → is_virtual e.dst ≡ false → place_of held e (Application i) ≡ 0
  unfolding place_of pairs application_candidates pairs_under joined picked first
  tried_first z v =
      let zero-fits : fits_at held e 0 ≡ true = subst (λ (k : ℕ). fits_at held e k ≡ true) z t in
      rw (picked_split (fits_at held e) (min held.applications application_key_places) 0 (omega arith) zero-fits, v, z) refl

  module _ (j : ℕ) (b : j < min held.labelled label_places) where
    pub tried_labelled :
        (label_at held.labels j).address ≡ e.dst → is_virtual e.dst ≡ true → place_of held e (Labelled i j) < length (pairs held e)
    unfolding place_of pairs application_candidates pairs_under label_candidates
    tried_labelled a v =
        found_picked (same_opener (Labelled i j)) (fits_at held e) (min held.applications application_key_places) i h t (pairs_under held e.dst)
        (rw v
        (found_mapped (same_opener (Labelled i j)) (λ k. eqb (label_at held.labels k).address e.dst) (min held.labelled label_places) j b
        (eq-eqb (label_at held.labels j).address e.dst a) (Labelled i) (same_refl (opener_values (Labelled i j)))))

-- ---- the bounds
module _ (held : Held) (e : Envelope) where
  candidates_most : length (application_candidates held e) ≤ application_key_places
  unfolding application_candidates
  candidates_most =
      let m = min held.applications application_key_places in
      omega (arith, length_picked (fits_at held e) (places m), length_places m)

  pub pairs_most : length (pairs held e) ≤ application_key_places * label_places
  unfolding pairs
  pairs_most =
      omega (arith, length_joined (pairs_under held e.dst) label_places (application_candidates held e) (pairs_under_most held e.dst), candidates_most)

  -- the places of each pair are among those held
  abbrev pub Within : Opener → Type 0
  Within (Application i) = i < min held.applications application_key_places
  Within (Labelled i j) = (i < min held.applications application_key_places) × (j < min held.labelled label_places)
  Within Device = Unit {0}

  under_within : (i : ℕ) → (i < min held.applications application_key_places) × (fits_at held e i ≡ true) → All Within (pairs_under held e.dst i)
  unfolding pairs_under label_candidates
  under_within i h =
      let has : ℕ → Bool = λ j. eqb (label_at held.labels j).address e.dst in
      let m = min held.labelled label_places in
      by_choice (All Within) (is_virtual e.dst)
      (λ t. all_map Within (λ j. (j < m) × (has j ≡ true)) (Labelled i) (picked has (places m)) (all_picked has m) (λ j b. (h.0, b.0)))
      (λ t. (h.0, tt))

  pairs_within : All Within (pairs held e)
  unfolding pairs application_candidates
  pairs_within =
      let m = min held.applications application_key_places in
      all_joined Within (λ i. (i < m) × (fits_at held e i ≡ true)) (pairs_under held e.dst)
      (picked (fits_at held e) (places m)) (all_picked (fits_at held e) m) under_within

  pub tried_within : (x : Opener) → place_of held e x < length (pairs held e) → Within x
  tried_within x h = subst Within (pair_there held e x h) (all_get Within (pairs held e) (place_of held e x) Device pairs_within h)

within_low : (held : Held) (e : Envelope) (x : Opener) → Within held e x → Low x
within_low held e (Application i) w = omega arith
within_low held e (Labelled i j) w = (omega arith, omega arith)
within_low held e Device w = tt

-- what an answer says of the buffer beside it
abbrev Says : List ℕ → List ℕ → Result Opened Unopened → List ℕ → Type 0
Says c buf (Ok o) b = Low o.opener × (o.trials ≤ application_key_places * label_places) × Stands c buf o.len b
Says c buf (Err (NotOpened trials)) b = (trials ≤ application_key_places * label_places) × (b ≡ buf)
Says c buf (Err ShortBuffer) b = (length buf < message_octets) × (b ≡ buf)

stands :
    (key : List ℕ) (e : Envelope) (a c buf : List ℕ) → (opened_by key e a c buf).answer ≡ true
    → Stands c buf (length c - mic_octets (trans_mic e.szmic)) (opened_by key e a c buf).buffer
unfolding opened_by
stands key e a c buf t =
    let l = opening_left (key_schedule key) (message_nonce_of e) (trans_mic e.szmic) a c buf in
    record { len_most = l.fits t; len_within = omega arith; as_long = l.as_long }

module _ (held : Held) (e : Envelope) (c buf : List ℕ) where
  abbrev Leaves : Lent (Result Opened Unopened) → Type 0
  Leaves r = Says c buf r.answer r.buffer

  keys_leave : Leaves (by_application_keys held e c buf)
  unfolding by_application_keys
  keys_leave =
      let m = pairs_most held e in
      let none : 0 + length (pairs held e) ≤ application_key_places * label_places = omega arith in
      tries_all (Within held e) (opens_message held e c buf) (λ t. Leaves (message_by held e c buf t)) 0 (pairs held e) (pairs_within held e)
      (λ x k w o h. (within_low held e x w, omega arith, stands (key_by held x) e (additional_by held x) c buf o)) (none, refl)

  device_leaves : Leaves (by_device_key held.device e c buf)
  unfolding by_device_key
  device_leaves =
      by_choice Leaves (opened_by held.device e [] c buf).answer (λ t. (tt, omega arith, stands held.device e [] c buf t)) (λ t. (omega arith, refl))

  unsecuring_leaves : Leaves (unsecuring held e c buf)
  unfolding unsecuring
  unsecuring_leaves =
      by_choice Leaves (ltb (length buf) message_octets) (λ t. (ltb-true (length buf) message_octets t, refl))
      (λ t. by_choice Leaves (ltb (length c) (1 + mic_octets (trans_mic e.szmic))) (λ u. (omega arith, refl))
      (λ u. by_choice Leaves e.akf (λ v. keys_leave) (λ v. device_leaves)))

says_trials : (c buf : List ℕ) (a : Result Opened Unopened) (b : List ℕ) → Says c buf a b → trials_of a ≤ application_key_places * label_places
says_trials c buf (Ok o) b l = l.1
says_trials c buf (Err (NotOpened trials)) b l = l.0
says_trials c buf (Err ShortBuffer) b l = omega arith

says_refused : (c buf : List ℕ) (a : Result Opened Unopened) (b : List ℕ) → Says c buf a b → 0 < number_of (paper a) → b ≡ buf
says_refused c buf (Ok o) b l h = absurd (omega arith)
says_refused c buf (Err (NotOpened trials)) b l h = l.1
says_refused c buf (Err ShortBuffer) b l h = l.1

pub trials_most : TrialsMost
trials_most held e c buf =
    let r = unsecuring held e c buf in
    says_trials c buf r.answer r.buffer (unsecuring_leaves held e c buf)

says_message :
    (held : Held) (e : Envelope) (c buf : List ℕ) (x : Opener) (trials len : ℕ) (left : List ℕ) → unsecuring held e c buf ≡ lent (opened x trials len) left
    → Says c buf (opened x trials len) left
says_message held e c buf x trials len left q = rw q at (unsecuring_leaves held e c buf)

pub message_stands : MessageStands
message_stands held e c buf x trials len left q = (says_message held e c buf x trials len left q).2

pub place_is_low : PlaceLow
place_is_low held e c buf x trials len left q = (says_message held e c buf x trials len left q).0

pub unsecuring_refused_keeps : RefusedKeeps
unsecuring_refused_keeps held e c buf h =
    let r = unsecuring held e c buf in
    says_refused c buf r.answer r.buffer (unsecuring_leaves held e c buf) h

-- 16 only where the buffer is short
pub unsecuring_short : (held : Held) (e : Envelope) (c buf : List ℕ) → (unsecuring held e c buf).answer ≡ Err ShortBuffer → length buf < message_octets
unsecuring_short held e c buf q =
    let left = (unsecuring held e c buf).buffer in
    let l : Says c buf (Err ShortBuffer) left = subst (λ (a : Result Opened Unopened). Says c buf a left) q (unsecuring_leaves held e c buf) in
    l.0

-- ---- which pairs were tried
-- the answers of other ways are others
abbrev opener_in : Result Opened Unopened → Opener
opener_in (Ok o) = o.opener
opener_in (Err u) = Device

abbrev is_short : Result Opened Unopened → Bool
is_short (Ok o) = false
is_short (Err (NotOpened trials)) = false
is_short (Err ShortBuffer) = true

module _ (held : Held) (e : Envelope) (c buf : List ℕ) where
  pub opened_by_first : (x : Opener) (trials len : ℕ) (left : List ℕ) → e.akf ≡ true → unsecuring held e c buf ≡ lent (opened x trials len) left → FirstToOpen held e c buf x trials
  unfolding unsecuring by_application_keys
  opened_by_first x trials len left akf =
      let P : Lent (Result Opened Unopened) → Type 0 = λ r. r ≡ lent (opened x trials len) left → FirstToOpen held e c buf x trials in
      let other : (r : Result Opened Unopened) (b : List ℕ) → is_ok r ≡ false → P (lent r b) =
      λ r b f q. absurd (true≢false (sym (ap (λ (v : Lent (Result Opened Unopened)). is_ok v.answer) q) ∙ f)) in
      by_choice P (ltb (length buf) message_octets) (λ t. other (Err ShortBuffer) buf refl)
      (λ t. by_choice P (ltb (length c) (1 + mic_octets (trans_mic e.szmic))) (λ u. other (Err (NotOpened 0)) buf refl)
      (λ u. by_choice P e.akf (λ v. tries_each (opens_message held e c buf) Device (λ t. P (message_by held e c buf t)) (pairs held e)
      (λ k o q. record {
        place = k;
        counted = sym (ap (λ (v : Lent (Result Opened Unopened)). trials_of v.answer) q);
        within = o.within;
        named = ap (λ (v : Lent (Result Opened Unopened)). opener_in v.answer) q;
        opens = ap (opens_message held e c buf) (sym (ap (λ (v : Lent (Result Opened Unopened)). opener_in v.answer) q)) ∙ o.passes;
        none_before = o.none_before;
      })
      (λ _. other (Err (NotOpened (length (pairs held e)))) buf refl))
      (λ v. absurd (true≢false (sym akf ∙ v)))))

  pub none_opened : (trials : ℕ) (left : List ℕ) → e.akf ≡ true → 1 + mic_octets (trans_mic e.szmic) ≤ length c → unsecuring held e c buf ≡ lent (Err (NotOpened trials)) left
      → (trials ≡ length (pairs held e)) × NoneOpens (opens_message held e c buf) Device (pairs held e)
  unfolding unsecuring by_application_keys
  none_opened trials left akf long =
      let P : Lent (Result Opened Unopened) → Type 0 = λ r. r ≡ lent (Err (NotOpened trials)) left → (trials ≡ length (pairs held e)) × NoneOpens (opens_message held e c buf) Device (pairs held e) in
      by_choice P (ltb (length buf) message_octets) (λ t q. absurd (true≢false (ap (λ (v : Lent (Result Opened Unopened)). is_short v.answer) q)))
      (λ t. rw (le-ltb (length c) (1 + mic_octets (trans_mic e.szmic)) long)
      (by_choice P e.akf (λ v. tries_each (opens_message held e c buf) Device (λ t. P (message_by held e c buf t)) (pairs held e)
      (λ k o q. absurd (true≢false (ap (λ (v : Lent (Result Opened Unopened)). is_ok v.answer) q)))
      (λ none q. (sym (ap (λ (v : Lent (Result Opened Unopened)). trials_of v.answer) q), none)))
      (λ v. absurd (true≢false (sym akf ∙ v)))))

pub first_opened : OpenedByFirst
first_opened = opened_by_first

pub no_pair_opened : NoneOpened
no_pair_opened = none_opened
