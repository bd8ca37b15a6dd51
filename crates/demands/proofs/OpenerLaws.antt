-- What opens a speech's message: its key has the octets that secured it, and its additional data is the label that it is said to. Assumes nothing.
--   label_there                     a label that is held stands at its place
--   opener_key, opener_additional   the opener's key and additional data
--   label_short                     it has at most sixteen octets
--   key_held                        a pair that is tried has a key that is held
--   plain_..                        a message to an address that is not virtual, under the first application key
use mathlib.Core.Bool.{Bool, true, false, true≢false}
use mathlib.Core.List.{List, []}
use mathlib.Core.Path.{◌≡◌, refl, sym, ◌∙◌}
use Prim.Native.Nat.{ℕ, ◌≤◌, ◌<◌, min}
use native.Mathlib.Omega.{arith}
use lib.ListN.{length}
use Rattle.common.specs.Lists.{same}
use Rattle.common.proofs.Same.{same_eq}
use Rattle.common.proofs.Search.{first_passes}
use Rattle.common.proofs.Tests.{by_test}
use Rattle.transport.specs.declared.securing.Envelope.{Envelope}
use Rattle.transport.specs.declared.securing.LabelUuid.{LabelUuid}
use Rattle.transport.specs.declared.securing.MessageKey.TheVariants.{Application}
use Rattle.transport.specs.declared.securing.Opener.TheVariants as opener
use Rattle.transport.specs.SecureOpen.{place_of, Receives}
use Rattle.transport.specs.Securing.{application_key_places, no_label, label_at, is_virtual, pairs, key_by, additional_by, application_key_at, fits_key}
use Rattle.transport.proofs.SecureOpen.{tried_within, tried_alone, tried_first}
use Rattle.node.specs.declared.addresses.Node.{Node}
use Rattle.node.specs.Addresses.{held_by}
use Rattle.node.specs.Made.{WellMade}
use Rattle.demands.specs.Speech.{Speech, key_of, label_place, HoldsLabel, opener_of, LabelRead, envelope_of}
use borrow.Author.Tests.{eq-eqb}

pub label_there : (node : Node) → WellMade node → (label : List ℕ) → HoldsLabel node label → (label_at node.labels (label_place node label)).octets ≡ label
unfolding label_place
label_there node made label h =
    let has : LabelUuid → Bool = λ l. same l.octets label in
    let places = made.labels_places in
    let held = h.held in
    same_eq _ label (first_passes has node.labels no_label (omega arith))

module _ (node : Node) (s : Speech) (i : ℕ) where
  pub opener_key : key_by (held_by node) (opener_of node s (Application i)) ≡ key_of node (Application i)
  opener_key = by_test (is_virtual s.dst) (λ t. rw t refl) (λ t. rw t refl)

  module _ (made : WellMade node) (read : LabelRead node s) where
    pub opener_additional : additional_by (held_by node) (opener_of node s (Application i)) ≡ s.label
    opener_additional =
        by_test (is_virtual s.dst) (λ t. rw t (label_there node made s.label (read.virtual t))) (λ t. rw t (sym (read.other t)))

    pub label_short : length s.label ≤ 16
    label_short =
        by_test (is_virtual s.dst) (λ t. omega (arith, (read.virtual t).sixteen)) (λ t. rw (read.other t) (omega arith))

  pub key_held : (e : Envelope) → place_of (held_by node) e (opener_of node s (Application i)) < length (pairs (held_by node) e) → i < min node.applications application_key_places
  key_held e =
      by_test (is_virtual s.dst)
      (λ t. rw t (λ h. (tried_within (held_by node) e (opener.Labelled i (label_place node s.label)) h).0))
      (λ t. rw t (λ h. tried_within (held_by node) e (opener.Application i) h))

-- ---- a message to an address that is not virtual, under the first application key: it is bound to the network key, and tried first
module _ (node : Node) (s : Speech) (szmic : Bool) (v : is_virtual s.dst ≡ false) (some : 0 < min node.applications application_key_places)
    (bound : (application_key_at node.appkeys 0).bound ≡ s.network) where
  abbrev e : Envelope
  e = envelope_of node s (Application 0) szmic

  fits : fits_key e (application_key_at node.appkeys 0) ≡ true
  fits = let aid = (application_key_at node.appkeys 0).aid in rw (eq-eqb aid aid refl, eq-eqb _ _ bound) refl

  pub plain_first : place_of (held_by node) e (opener_of node s (Application 0)) ≡ 0
  plain_first = rw v (tried_first (held_by node) e 0 some fits refl v)

  plain_tried : place_of (held_by node) e (opener_of node s (Application 0)) < length (pairs (held_by node) e)
  plain_tried = rw v (tried_alone (held_by node) e 0 some fits v)

pub plain_read :
    (node : Node) (s : Speech) (szmic : Bool) (c msg : List ℕ) → is_virtual s.dst ≡ false → 0 < min node.applications application_key_places
    → (application_key_at node.appkeys 0).bound ≡ s.network
    → Receives (held_by node) (opener_of node s (Application 0)) (envelope_of node s (Application 0) szmic) c msg
plain_read node s szmic c msg v some bound =
    let z = plain_first node s szmic v some bound in
    record { akf_set = refl; tried = plain_tried node s szmic v some bound; none_before = λ k h. absurd (omega arith) }

pub plain_label : (node : Node) (s : Speech) → is_virtual s.dst ≡ false → s.label ≡ [] → LabelRead node s
plain_label node s v l = record { virtual = λ t. absurd (true≢false (sym t ∙ v)); other = λ _. l }
