-- A form, a SeqAuth, an opened message and what was vetted are read back from how they are given. Assumes nothing.
use mathlib.Core.List.{List}
use mathlib.Core.Path.{◌≡◌, refl, ap}
use Prim.Native.Nat.{ℕ, ◌+◌}
use lib.Dec.{eqb}
use lib.ListN.{get_or}
use Rattle.std.specs.Prelude.{Option, Some, None, Result, Ok, Err, if◌then◌else◌}
use Rattle.common.specs.Paper.{Paper, Refusal, Given}
use Rattle.common.proofs.PaperLaws.{told_apart, bit_back}
use Rattle.transport.specs.declared.form.Form.{Form}
use Rattle.transport.specs.declared.form.Form.TheVariants.{Access, AccessSegment, Control, ControlSegment, Acknowledgement}
use Rattle.transport.specs.declared.form.SegmentFields.{SegmentFields}
use Rattle.transport.specs.declared.securing.Opened.{Opened}
use Rattle.transport.specs.declared.securing.Opener.{Opener}
use Rattle.transport.specs.declared.securing.Opener.TheVariants.{Application, Labelled, Device}
use Rattle.transport.specs.declared.securing.Unopened.{Unopened}
use Rattle.transport.specs.declared.securing.Unopened.TheVariants.{NotOpened, ShortBuffer}
use Rattle.transport.specs.declared.vetting.Refusal as refusal
use Rattle.transport.specs.declared.vetting.Refusal.TheVariants as vetted
use Rattle.transport.specs.Form as form
use Rattle.transport.specs.Securing as securing
use Rattle.transport.specs.SeqAuth as seq_auth
use Rattle.transport.specs.Vetting as vetting

-- ---- SeqAuth
abbrev read_auth : Paper seq_auth.Word → Option ℕ
read_auth (Given seq_auth.begun v) = Some (get_or v 0 0)
read_auth (Refusal n v) = None

auth_back : (a : Option ℕ) → read_auth (seq_auth.paper a) ≡ a
auth_back (Some n) = refl
auth_back None = refl

pub auth_apart : seq_auth.PaperApart
auth_apart = told_apart seq_auth.paper read_auth auth_back

-- ---- a form
abbrev fields_at : List ℕ → ℕ → SegmentFields
fields_at v i = record { szmic = eqb (get_or v i 0) 1; seqzero = get_or v (i + 1) 0; sego = get_or v (i + 2) 0; segn = get_or v (i + 3) 0 }

abbrev read_form : Paper form.Word → Option Form
read_form (Given form.access v) = Some (Access (eqb (get_or v 0 0) 1) (get_or v 1 0))
read_form (Given form.access-segment v) = Some (AccessSegment (eqb (get_or v 0 0) 1) (get_or v 1 0) (fields_at v 2))
read_form (Given form.control v) = Some (Control (get_or v 0 0))
read_form (Given form.control-segment v) = Some (ControlSegment (get_or v 0 0) (fields_at v 1))
read_form (Given form.acknowledgement v) = Some (Acknowledgement (eqb (get_or v 0 0) 1) (get_or v 1 0) (get_or v 2 0))
read_form (Refusal n v) = None

form_back : (f : Option Form) → read_form (form.paper f) ≡ f
form_back (Some (Access akf aid)) = rw (bit_back akf) refl
form_back (Some (AccessSegment akf aid f)) = rw (bit_back akf, bit_back f.szmic) refl
form_back (Some (Control opcode)) = refl
form_back (Some (ControlSegment opcode f)) = rw (bit_back f.szmic) refl
form_back (Some (Acknowledgement obo seq_zero bits)) = rw (bit_back obo) refl
form_back None = refl

pub form_apart : form.PaperApart
form_apart = told_apart form.paper read_form form_back

-- ---- an opened message
abbrev pub opener_as : ℕ → ℕ → ℕ → Opener
opener_as kind i j = if eqb kind 0 then Application i else if eqb kind 1 then Device else Labelled i j

abbrev read_opener : List ℕ → Opener
read_opener v = opener_as (get_or v 0 0) (get_or v 1 0) (get_or v 2 0)

opener_back : (x : Opener) → read_opener (securing.opener_values x) ≡ x
opener_back (Application i) = refl
opener_back (Labelled i j) = refl
opener_back Device = refl

pub opener_apart : (x y : Opener) → securing.opener_values x ≡ securing.opener_values y → x ≡ y
opener_apart = told_apart securing.opener_values read_opener opener_back

abbrev read_opened : Paper securing.Word → Result Opened Unopened
read_opened (Given securing.message v) = securing.opened (opener_as (get_or v 2 0) (get_or v 3 0) (get_or v 4 0)) (get_or v 0 0) (get_or v 1 0)
read_opened (Refusal n v) = if eqb n 13 then Err (NotOpened (get_or v 0 0)) else Err ShortBuffer

opened_back : (o : Result Opened Unopened) → read_opened (securing.paper o) ≡ o
opened_back (Ok o) = ap (λ (x : Opener). securing.opened x o.trials o.len) (opener_back o.opener)
opened_back (Err (NotOpened trials)) = refl
opened_back (Err ShortBuffer) = refl

pub opened_apart : securing.PaperApart
opened_apart = told_apart securing.paper read_opened opened_back

-- ---- what was vetted
abbrev read_vetted : Paper vetting.Word → Result ℕ refusal.Refusal
read_vetted (Given vetting.approved v) = Ok (get_or v 0 0)
read_vetted (Refusal n v) = if eqb n 16 then Err vetted.ShortBuffer else if eqb n 26 then Err (vetted.Fault (get_or v 0 0)) else Err vetted.Unfinished

vetted_back : (v : Result ℕ refusal.Refusal) → read_vetted (vetting.paper v) ≡ v
vetted_back (Ok len) = refl
vetted_back (Err vetted.ShortBuffer) = refl
vetted_back (Err (vetted.Fault k)) = refl
vetted_back (Err vetted.Unfinished) = refl

pub vetted_apart : vetting.PaperApart
vetted_apart = told_apart vetting.paper read_vetted vetted_back
