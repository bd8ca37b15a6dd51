-- Securing and opening from the code's steps. Under an application key the labels of DST are passed, tried in vain, or one opens the message: `SearchingLabels`.
-- A key is passed, what there is under it is tried in vain, or opens the message, and past the last key nothing opens it: `Searching`. A trial in vain keeps the buffer, so each is
-- made on the same one. Then the laws of the answers, each named for what is wrong or for the key. Assumes nothing.
use mathlib.Core.Bool.{Bool, true, false, true≢false, false≢true}
use mathlib.Core.List.{List, [], map}
use mathlib.Core.Path.{◌≡◌, sym, ap, ap₂, ◌∙◌, subst}
use Prim.Native.Nat.{ℕ, ◌+◌, ◌-◌, ◌≤◌, ◌<◌, min}
use native.Mathlib.Omega.{arith}
use borrow.Author.Tests.{le-ltb}
use lib.Dec.{eqb}
use lib.ListN.{length, length-map}
use Rattle.std.specs.Prelude.{Option, Some, None, Result, Err, is_some}
use Rattle.std.specs.Bool.{then_some}
use Rattle.common.specs.Lent.{Lent, lent}
use Rattle.common.specs.Lists.{joined}
use Rattle.common.specs.Search.{picked}
use Rattle.common.specs.Trials.{Outcome, Succeeded, Failed, tries_from, tries}
use Rattle.common.proofs.Joined.{all_at, tries_all, later, along, tries_later, tries_map}
use Rattle.common.proofs.Joined.{Grouping, grouping_start, grouping_pass, grouping_fails, grouping_succeeds, grouping_end}
use Rattle.common.proofs.Picked.{places, length_places, length_picked}
use Rattle.common.proofs.Tests.{by_test}
use Rattle.common.proofs.Trials.{Visited, visited_pass, visited_tried, visited_opens, visited_end}
use Rattle.aes.specs.KeyExpansion.{key_schedule}
use Rattle.modes.specs.Ccm.{mic_octets}
use Rattle.modes.proofs.Opened.{opening_left}
use Rattle.transport.specs.declared.securing.Envelope.{Envelope}
use Rattle.transport.specs.declared.securing.Held.{Held}
use Rattle.transport.specs.declared.securing.Opened.{Opened}
use Rattle.transport.specs.declared.securing.Opener.{Opener}
use Rattle.transport.specs.declared.securing.Opener.TheVariants.{Application, Labelled, Device}
use Rattle.transport.specs.declared.securing.Tried.{Tried}
use Rattle.transport.specs.declared.securing.Unopened.{Unopened}
use Rattle.transport.specs.declared.securing.Unopened.TheVariants.{NotOpened}
use Rattle.transport.specs.Securing.{application_key_places, label_places, trans_mic, message_nonce_of, opened_by, application_key_at, label_at, fits_key}
use Rattle.transport.specs.Securing.{application_candidates, label_candidates, is_virtual, pairs_under, pairs, opened_by_pair, opens_message, tried_as, under_key}
use Rattle.transport.specs.Securing.{opened, message_by, by_application_keys, by_device_key, unsecuring}
use Rattle.transport.specs.Segment.{message_octets}

-- a key is tried on a buffer that is what it was
pub opened_on :
    (key : List ℕ) (e : Envelope) (a c buf : List ℕ) {b : List ℕ} {r : Lent Bool} → b ≡ buf → r ≡ opened_by key e a c b → r ≡ opened_by key e a c buf
opened_on key e a c buf eb er = er ∙ ap (opened_by key e a c) eb

-- a key that does not open the message keeps the buffer
module _ (key : List ℕ) (e : Envelope) (a c buf : List ℕ) {ok : Bool} {out : List ℕ} (eo : lent ok out ≡ opened_by key e a c buf) where
  pub opened_kept : ok ≡ false → out ≡ buf
  unfolding opened_by
  opened_kept f =
      let l = opening_left (key_schedule key) (message_nonce_of e) (trans_mic e.szmic) a c buf in
      ap (λ (r : Lent Bool). r.buffer) eo ∙ l.kept (sym (ap (λ (r : Lent Bool). r.answer) eo) ∙ f)

-- ---- the labels of DST under the key at place i
module _ (held : Held) (i : ℕ) (e : Envelope) where
  -- whether the label at a place has that address
  abbrev pub has_address : ℕ → Bool
  has_address j = eqb (label_at held.labels j).address e.dst

  module _ (c buf : List ℕ) where
    -- the labels before place j are done with, n of them were tried, and none of those opens the message
    abbrev pub SearchingLabels : ℕ → ℕ → Type 0
    SearchingLabels j n = Visited has_address (λ k. opens_message held e c buf (Labelled i k)) (min held.labelled label_places) j n

    -- what their trials leave
    abbrev pub by_labels : Lent Tried
    by_labels = tried_as held e c buf (tries (opens_message held e c buf) (map (Labelled i) (label_candidates held e.dst)))

    ends : {r : Outcome ℕ} → tries (λ k. opens_message held e c buf (Labelled i k)) (picked has_address (places (min held.labelled label_places))) ≡ r
        → tried_as held e c buf (along (Labelled i) r) ≡ by_labels
    unfolding label_candidates
    ends er = ap (tried_as held e c buf) (sym (tries_map (Labelled i) (opens_message held e c buf) 0 (label_candidates held e.dst) ∙ ap (along (Labelled i)) er))

    module _ {j n : ℕ} (s : SearchingLabels j n) where
      pub no_label_opens : min held.labelled label_places ≤ j → lent (record { trials = n; opener = None }) buf ≡ by_labels
      no_label_opens h = ends (visited_end has_address (λ k. opens_message held e c buf (Labelled i k)) (min held.labelled label_places) s h)

      module _ (h : j < min held.labelled label_places) where
        -- the label at j has another address
        pub label_passed : has_address j ≡ false → SearchingLabels (j + 1) n
        label_passed f = visited_pass has_address (λ k. opens_message held e c buf (Labelled i k)) (min held.labelled label_places) s h f

        -- it has that address
        module _ (t : has_address j ≡ true) {ok : Bool} {out : List ℕ} (eo : lent ok out ≡ opened_by_pair held e c buf (Labelled i j)) where
          verdict : opens_message held e c buf (Labelled i j) ≡ ok
          verdict = sym (ap (λ (r : Lent Bool). r.answer) eo)

          pub label_tried : ok ≡ false → SearchingLabels (j + 1) (n + 1)
          label_tried f = visited_tried has_address (λ k. opens_message held e c buf (Labelled i k)) (min held.labelled label_places) s h t (verdict ∙ f)

          pub label_opens : ok ≡ true → lent (record { trials = n + 1; opener = Some (Labelled i j) }) out ≡ by_labels
          label_opens f =
              ap (lent (record { trials = n + 1; opener = Some (Labelled i j) })) (ap (λ (r : Lent Bool). r.buffer) eo)
              ∙ ends (visited_opens has_address (λ k. opens_message held e c buf (Labelled i k)) (min held.labelled label_places) s h t (verdict ∙ f))

-- ---- what is tried under the key at place i
module _ (held : Held) (i : ℕ) (e : Envelope) (c buf : List ℕ) where
  pub under_labels : {r : Lent Tried} → is_virtual e.dst ≡ true → r ≡ by_labels held i e c buf → r ≡ under_key held i e c buf
  unfolding under_key pairs_under
  under_labels t er = er ∙ rw t

  pub under_alone :
      {ok : Bool} {out : List ℕ} → is_virtual e.dst ≡ false → lent ok out ≡ opened_by_pair held e c buf (Application i)
      → {x : Option Opener} → x ≡ then_some ok (Application i) → lent (record { trials = 1; opener = x }) out ≡ under_key held i e c buf
  unfolding under_key pairs_under tries_from
  under_alone {ok} {out} f eo ex =
      let t = sym (ap (λ (r : Lent Bool). r.answer) eo) in
      by_test ok
      (λ o. rw (f, t, ex, o) (ap (lent (record { trials = 1; opener = Some (Application i) })) (ap (λ (r : Lent Bool). r.buffer) eo)))
      (λ o. rw (f, t, ex, o) (ap (lent (record { trials = 1; opener = None })) (opened_kept (application_key_at held.appkeys i).key e [] c buf eo o)))

  -- ---- read off what was tried
  abbrev Ended : Tried → List ℕ → Outcome Opener → Type 0
  Ended t out r =
      (t.opener ≡ None → (r ≡ Failed t.trials) × (out ≡ buf))
      × ((x : Opener) → t.opener ≡ Some x → (r ≡ Succeeded x t.trials) × (out ≡ (opened_by_pair held e c buf x).buffer))

  module _ {t : Tried} {out : List ℕ} where
    ended : (r : Outcome Opener) → lent t out ≡ tried_as held e c buf r → Ended t out r
    ended (Succeeded x k) q =
        let at : t.opener ≡ Some x = ap (λ (l : Lent Tried). l.answer.opener) q in
        let n : t.trials ≡ k = ap (λ (l : Lent Tried). l.answer.trials) q in (
          λ f. absurd (false≢true (ap is_some (sym f ∙ at))),
          λ y f.
              let same : x ≡ y = cc in
              subst (λ (z : Opener). (Succeeded x k ≡ Succeeded z t.trials) × (out ≡ (opened_by_pair held e c buf z).buffer)) same
              (ap (Succeeded x) (sym n), ap (λ (l : Lent Tried). l.buffer) q),
        )
    ended (Failed k) q = (
      λ _. (sym (ap (λ (l : Lent Tried). Failed l.answer.trials) q), ap (λ (l : Lent Tried). l.buffer) q),
      λ y f. absurd (true≢false (ap is_some (sym f ∙ ap (λ (l : Lent Tried). l.answer.opener) q))),
    )

    module _ (q : lent t out ≡ under_key held i e c buf) where
      whole : Ended t out (tries (opens_message held e c buf) (pairs_under held e.dst i))
      unfolding under_key
      whole = ended (tries (opens_message held e c buf) (pairs_under held e.dst i)) q

      -- the trials go on, or end here
      pub under_fails : (n : ℕ) → t.opener ≡ None → tries_from (n + 0) (opens_message held e c buf) (pairs_under held e.dst i) ≡ Failed (n + t.trials)
      under_fails n f = tries_later (opens_message held e c buf) n 0 (pairs_under held e.dst i) ∙ ap (later n) (whole.0 f).0

      pub under_opens :
          (n : ℕ) (x : Opener) → t.opener ≡ Some x → tries_from (n + 0) (opens_message held e c buf) (pairs_under held e.dst i) ≡ Succeeded x (n + t.trials)
      under_opens n x f = tries_later (opens_message held e c buf) n 0 (pairs_under held e.dst i) ∙ ap (later n) (whole.1 x f).0

      pub under_kept : t.opener ≡ None → out ≡ buf
      under_kept f = (whole.0 f).1

      pub under_buffer : (x : Opener) → t.opener ≡ Some x → out ≡ (opened_by_pair held e c buf x).buffer
      under_buffer x f = (whole.1 x f).1

  -- ---- tried on a buffer that is what it was
  pub under_on : {b : List ℕ} {r : Lent Tried} → b ≡ buf → r ≡ under_key held i e c b → r ≡ under_key held i e c buf
  under_on eb er = er ∙ ap (under_key held i e c) eb

-- there are at most four labels, so no more pairs under a key
pub pairs_under_most : (held : Held) (dst i : ℕ) → length (pairs_under held dst i) ≤ label_places
unfolding pairs_under label_candidates
pairs_under_most held dst i =
    let m = min held.labelled label_places in
    let p : ℕ → Bool = λ j. eqb (label_at held.labels j).address dst in
    by_test (is_virtual dst)
    (λ t. rw (t, length-map (picked p (places m)) (Labelled i)) (omega (arith, length_picked p (places m), length_places m)))
    (λ t. rw t (omega arith))

module _ (held : Held) (i : ℕ) (e : Envelope) (c buf : List ℕ) {t : Tried} {out : List ℕ} (q : lent t out ≡ under_key held i e c buf) where
  -- nor more trials
  pub under_most : t.trials ≤ label_places
  unfolding under_key
  under_most =
      let l = pairs_under held e.dst i in
      let m : 0 + length l ≤ label_places = omega (arith, pairs_under_most held e.dst i) in
      let most : (tried_as held e c buf (tries (opens_message held e c buf) l)).answer.trials ≤ label_places =
      tries_all (λ x. Unit {0}) (opens_message held e c buf) (λ r. (tried_as held e c buf r).answer.trials ≤ label_places) 0 l (all_at (λ x. Unit {0}) l Device (λ j h. tt))
      (λ x k u o h. omega arith) m in
      rw (ap (λ (r : Lent Tried). r.answer.trials) q) most

-- ---- the application keys
module _ (held : Held) (e : Envelope) where
  -- whether the key at a place fits
  abbrev pub fits_at : ℕ → Bool
  fits_at i = fits_key e (application_key_at held.appkeys i)

  module _ (c buf : List ℕ) where
    -- the keys before place i are done with, n pairs were tried, and none of those opens the message
    abbrev pub Searching : ℕ → ℕ → Type 0
    Searching i n = Grouping fits_at (pairs_under held e.dst) (opens_message held e c buf) (min held.applications application_key_places) i n

    pub no_key_yet : Searching 0 0
    no_key_yet = grouping_start fits_at (pairs_under held e.dst) (opens_message held e c buf) (min held.applications application_key_places)

    all : {r : Outcome Opener} → tries (opens_message held e c buf) (joined (pairs_under held e.dst) (picked fits_at (places (min held.applications application_key_places)))) ≡ r
        → message_by held e c buf r ≡ by_application_keys held e c buf
    unfolding by_application_keys pairs application_candidates
    all er = ap (message_by held e c buf) (sym er)

    module _ {i n : ℕ} (s : Searching i n) where
      -- past the last key
      pub no_key_opens_law : min held.applications application_key_places ≤ i → lent (Err (NotOpened n)) buf ≡ by_application_keys held e c buf
      no_key_opens_law h = all (grouping_end fits_at (pairs_under held e.dst) (opens_message held e c buf) (min held.applications application_key_places) s h)

      module _ (h : i < min held.applications application_key_places) where
        -- the key at i does not fit
        pub key_passed : {fit : Bool} → fit ≡ fits_at i → fit ≡ false → Searching (i + 1) n
        key_passed ef f =
            grouping_pass fits_at (pairs_under held e.dst) (opens_message held e c buf) (min held.applications application_key_places) s h (sym ef ∙ f)

        -- it fits
        module _ {fit : Bool} (ef : fit ≡ fits_at i) (t : fit ≡ true) {u : Tried} {out : List ℕ} (eu : lent u out ≡ under_key held i e c buf) where
          from_here : {r : Outcome Opener} → tries_from (n + 0) (opens_message held e c buf) (pairs_under held e.dst i) ≡ r
              → tries_from n (opens_message held e c buf) (pairs_under held e.dst i) ≡ r
          from_here er = let z : n + 0 ≡ n = omega arith in rw z at er

          pub key_tried : u.opener ≡ None → Searching (i + 1) (n + u.trials)
          key_tried f =
              grouping_fails fits_at (pairs_under held e.dst) (opens_message held e c buf) (min held.applications application_key_places) s h (sym ef ∙ t)
              (from_here (under_fails held i e c buf eu n f))

          pub key_opens :
              {len : ℕ} → len ≡ length c - mic_octets (trans_mic e.szmic) → (x : Opener) → u.opener ≡ Some x
              → lent (opened x (n + u.trials) len) out ≡ by_application_keys held e c buf
          key_opens {len} el x f =
              ap₂ (λ (m : ℕ) (b : List ℕ). lent (opened x (n + u.trials) m) b) el (under_buffer held i e c buf eu x f)
              ∙ all
              (grouping_succeeds fits_at (pairs_under held e.dst) (opens_message held e c buf) (min held.applications application_key_places) s h (sym ef ∙ t)
              (from_here (under_opens held i e c buf eu n x f)))

-- ---- the device key
module _ (device : List ℕ) (e : Envelope) (c buf : List ℕ) {ok : Bool} {out : List ℕ} (eo : lent ok out ≡ opened_by device e [] c buf) where
  pub device_not : ok ≡ false → lent (Err (NotOpened 0)) out ≡ by_device_key device e c buf
  unfolding by_device_key
  device_not f = rw (← eo, f) (ap (lent (Err (NotOpened 0))) (opened_kept device e [] c buf eo f))

  pub device_opens : {len : ℕ} → len ≡ length c - mic_octets (trans_mic e.szmic) → ok ≡ true → lent (opened Device 0 len) out ≡ by_device_key device e c buf
  unfolding by_device_key
  device_opens el t = rw (← eo, t, el)

-- ---- the answers of opening
module _ (held : Held) (e : Envelope) (c buf : List ℕ) where
  module _ (room : message_octets ≤ length buf) where
    module _ (long : 1 + mic_octets (trans_mic e.szmic) ≤ length c) where
      pub open_application : {r : Lent (Result Opened Unopened)} → e.akf ≡ true → r ≡ by_application_keys held e c buf → r ≡ unsecuring held e c buf
      unfolding unsecuring
      open_application t er = er ∙ rw (le-ltb (length buf) message_octets room, le-ltb (length c) (1 + mic_octets (trans_mic e.szmic)) long, t)

      pub open_device : {r : Lent (Result Opened Unopened)} → e.akf ≡ false → r ≡ by_device_key held.device e c buf → r ≡ unsecuring held e c buf
      unfolding unsecuring
      open_device t er = er ∙ rw (le-ltb (length buf) message_octets room, le-ltb (length c) (1 + mic_octets (trans_mic e.szmic)) long, t)
