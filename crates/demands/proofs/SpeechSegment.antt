-- What a segment of a speech is to a receiver. It has 5 to 16 octets, so it stands whole in its header and is read back; its chunk begins at size * i; its number
-- leads back to SeqAuth. Each number in it has its bits and its DST may be spoken to, so it can be sealed. Assumes nothing.
--   terms_of                 what the segments of a speech have in common
--   transport_long, formed   its header is one that can be read back
--   segment_octets_law       its octets are chunk i
--   segment_sealable         it can be sealed, and so can one that is sent (`cut_sealable`)
--   segment_taken            a header of the speech is taken as segment i
--   segment_placed           and placed by the speech's SeqAuth
use mathlib.Core.Bool.{Bool, true, false, false≢true}
use mathlib.Core.List.{List, ◌++◌, append_assoc}
use mathlib.Core.Path.{◌≡◌, refl, sym, ap, ◌∙◌, subst}
use Prim.Native.Nat.{ℕ, ◌+◌, ◌%◌, ◌≤◌, ◌<◌}
use native.Mathlib.Omega.{arith}
use borrow.Author.Tests.{eq-eqb, eqb-false, le-leb}
use lib.Dec.{eqb}
use lib.ListN.{length, get_or, drop, replicate, length-append}
use lib.Seq.{drop_at}
use Rattle.common.specs.Lent.{Lent}
use Rattle.common.specs.Lists.{padded}
use Rattle.common.proofs.Lists.{length_tab}
use Rattle.common.proofs.Tests.{by_test}
use Rattle.keys.proofs.Widths.{nid_low}
use Rattle.network.specs.declared.header.Header.{Header}
use Rattle.network.specs.Address.{kind_of, is_unicast, destination_kind}
use Rattle.network.specs.Candidates.{key_at}
use Rattle.network.specs.Header.{transport_of}
use Rattle.network.specs.SealOpen.{Formed}
use Rattle.network.specs.Sealing.{most_transport, sealable}
use Rattle.network.proofs.AddressLaws.{addresses_allowed_law}
use Rattle.network.proofs.Sealed.{sealable_where}
use Rattle.network.proofs.TrialLaws.{onto_zeros, take_padded}
use Rattle.transport.specs.declared.form.SegmentFields.{SegmentFields}
use Rattle.transport.specs.declared.securing.MessageKey.{MessageKey}
use Rattle.transport.specs.declared.securing.MessageKey.TheVariants.{Application, Device}
use Rattle.transport.specs.Form.{key_fits, segment_fits, form_of}
use Rattle.transport.specs.LeadsBack.{SegmentOf}
use Rattle.transport.specs.Ranges.{InRange, KeyInRange, OpcodeInRange}
use Rattle.transport.specs.ReadsBack.{Carries, front_of}
use Rattle.transport.specs.Segment.{message_octets, full_octets, segment_front}
use Rattle.transport.proofs.LeadsBack.{leads_back}
use Rattle.transport.proofs.ReadsBack.{access_segment_reads_back, control_segment_reads_back}
use Rattle.transport.proofs.SegmentLaws.{length_front, front_first}
use Rattle.memory.specs.declared.session.Segment.{Segment}
use Rattle.memory.specs.declared.session.Terms.{Terms}
use Rattle.memory.specs.Session.{segment_octets}
use Rattle.memory.proofs.Stored.{octets_are}
use Rattle.node.specs.declared.addresses.Node.{Node}
use Rattle.node.specs.Made.{WellMade}
use Rattle.node.proofs.Addressed.{for_allowed}
use Rattle.receiver.specs.declared.answer.Taken.{Taken}
use Rattle.receiver.specs.declared.state.Receiver.{Receiver}
use Rattle.receiver.specs.Hearing.{taken_as}
use Rattle.receiver.specs.Segmented as segments
use Rattle.receiver.proofs.Laws.Form.{taken_access_segment, taken_control_segment}
use Rattle.receiver.proofs.Laws.Segment.{segmented_placed}
use Rattle.demands.specs.Speech.{Words, Access, Control, Speech, is_control, szmic_of, aid_of, akf_of, first_of, size_of, last_of, segment_of, header_of, WordsRead, Speakable}
use Rattle.demands.proofs.SpeechCut.{Cut, size_bounds, cut, last_low, cut_bounds, part, part_bounds, part_full}
use Rattle.demands.proofs.SpeechMessage.{message_opens}
use Rattle.transport.specs.Securing.{is_virtual}

-- what the segments of a speech have in common
abbrev pub terms_of : Node → Speech → Terms
terms_of node s =
    record {
      ctl = is_control s.words;
      first = first_of node s.words;
      szmic = szmic_of s.words;
      segn = last_of node s;
      dst = s.dst;
      key = s.network;
    }

-- ---- its length, and that it can be sealed
module _ (node : Node) (s : Speech) (i : ℕ) where
  -- four octets stand before the chunk
  length_segment : length (segment_of node s i) ≡ 4 + length (part node s i)
  unfolding segment_of
  length_segment =
      let front = segment_front (first_of node s.words) (szmic_of s.words) (s.auth.seq % 8192) i (last_of node s) in
      let four : length front ≡ 4 = length_front (first_of node s.words) (szmic_of s.words) (s.auth.seq % 8192) i (last_of node s) in
      length-append front (part node s i) ∙ ap (λ (n : ℕ). n + length (part node s i)) four

  -- every number has its bits, and DST may be sent to
  module _ (c : Cut node s) (there : i ≤ last_of node s) (made : WellMade node) (held : s.network < node.networks) (source : is_unicast s.src ≡ true)
      (destination : destination_kind (is_control s.words) (kind_of s.dst) ≡ true) where
    pub cut_sealable : (seq ttl : ℕ) → seq ≤ 0xFFFFFF → ttl ≤ 127 → sealable (key_at node.materials s.network) (header_of node s i seq ttl) ≡ true
    unfolding header_of
    cut_sealable seq ttl eseq ettl =
        let l = length_segment in
        let p = cut_bounds node s c i there in
        let k : (key_at node.materials s.network).nid ≤ 127 = rw (made.derived s.network held) (nid_low _) in
        let most : length (segment_of node s i) ≤ most_transport (is_control s.words) =
        let q = p.1 in
        by_test (is_control s.words) (λ t. let m : size_of s ≡ 8 = ap full_octets t in rw t (omega arith)) (λ t. let m : size_of s ≡ 12 = ap full_octets t in rw t (omega arith)) in
        let allowed = addresses_allowed_law (is_control s.words) s.src s.dst source destination in
        sealable_where (key_at node.materials s.network) (header_of node s i seq ttl) k ettl eseq allowed (omega arith) most

-- ---- the segment
module _ (node : Node) (s : Speech) (w : Speakable node s) (i : ℕ) (there : i ≤ last_of node s) where
  -- which segment of which message it is
  abbrev fields : SegmentFields
  fields = record { szmic = szmic_of s.words; seqzero = s.auth.seq % 8192; sego = i; segn = last_of node s }

  abbrev front : List ℕ
  front = front_of (first_of node s.words) fields

  front_long : length front ≡ 4
  front_long = length_front (first_of node s.words) (szmic_of s.words) (s.auth.seq % 8192) i (last_of node s)

  segment_long : length (segment_of node s i) ≡ 4 + length (part node s i)
  segment_long = length_segment node s i

  segment_short : length (segment_of node s i) ≤ 16
  segment_short =
      let l = segment_long in
      let p = (part_bounds node s w i there).1 in
      let b = (size_bounds s).1 in
      omega arith

  module _ (seq ttl : ℕ) where
    abbrev h : Header
    h = header_of node s i seq ttl

    pub transport_long : length h.transport ≡ 16
    unfolding header_of
    transport_long = length_tab (λ j. get_or (segment_of node s i) j 0) 16

    transport_is : transport_of h ≡ segment_of node s i
    unfolding header_of
    transport_is = take_padded 16 (segment_of node s i) segment_short

    pub segment_octets_law : segment_octets h ≡ part node s i
    unfolding segment_of
    segment_octets_law = octets_are h ∙ ap (drop 4) transport_is ∙ drop_at front (part node s i) 4 front_long

    pub formed : Formed h
    unfolding header_of
    formed = record { dst_fits = w.dst_fits; zeros_behind = ap (padded 16) transport_is }

    -- a control message has no virtual DST
    not_virtual : (words : Words) → WordsRead node s words → is_control words ≡ true → is_virtual s.dst ≡ false
    not_virtual (Access key szmic payload) r c = absurd (false≢true c)
    not_virtual (Control code parameters) r c = r.2

    -- it can be sealed: every number has its bits, and a DST that is for a node may be sent to
    pub segment_sealable : WellMade node → seq ≤ 0xFFFFFF → ttl ≤ 127 → sealable (key_at node.materials s.network) h ≡ true
    segment_sealable made eseq ettl =
        let held = w.held in
        let destination = for_allowed node made s.dst (is_control s.words) (not_virtual s.words w.words_read) w.for_here in
        cut_sealable node s i (cut node s w) there made (omega arith) w.from_unicast destination seq ttl eseq ettl

    carries : (ctl : Bool) → is_control s.words ≡ ctl → Carries h ctl front
    unfolding header_of segment_of
    carries ctl e =
        record {
          behind = part node s i ++ drop (length (segment_of node s i)) (replicate 16 0);
          ctl_is = e;
          begins = sym (onto_zeros 16 (segment_of node s i) segment_short) ∙ append_assoc front (part node s i) (drop (length (segment_of node s i)) (replicate 16 0));
        }

    fits : (full : ℕ) → full ≡ 4 + size_of s → segment_fits i (last_of node s) h.len full ≡ true
    unfolding header_of segment_fits
    fits full e =
        let l = segment_long in
        let p = (part_bounds node s w i there).0 in
        let long = length (segment_of node s i) in
        by_test (eqb i (last_of node s))
        (λ t. rw (le-leb 5 long (omega arith), le-leb i (last_of node s) there, t) refl)
        (λ t.
        let n = eqb-false i (last_of node s) t in
        let f = part_full node s w i there (omega arith) in
        rw (le-leb 5 long (omega arith), le-leb i (last_of node s) there, t) (eq-eqb long full (omega arith)))

    in_range : (full : ℕ) → full ≡ 4 + size_of s → InRange fields h.len full
    in_range full e = record { seq_zero_fits = omega arith; seg_n_fits = last_low node s w; fits = fits full e }

    -- ---- it is read back
    key_range : (key : MessageKey) → aid_of node key < 64 → (akf_of key ≡ false → is_unicast s.dst ≡ true) → KeyInRange (akf_of key) (aid_of node key) h.dst
    unfolding header_of key_fits
    key_range (Application j) low u = record { aid_fits = low; fits = refl }
    key_range Device low u = record { aid_fits = low; fits = u refl }

    -- as what a header of the speech is taken: a segment of the message
    abbrev as_segment : Receiver → List ℕ → Lent Taken
    as_segment r msg = segments.segmented r h fields msg

    taken_access :
        (r : Receiver) (msg : List ℕ) (key : MessageKey) (szmic : Bool) (payload : List ℕ) → s.words ≡ Access key szmic payload
        → aid_of node key < 64 → (akf_of key ≡ false → is_unicast s.dst ≡ true) → taken_as (form_of h) r h msg ≡ as_segment r msg
    taken_access r msg key szmic payload e low u =
        let c = subst (λ (o : ℕ). Carries h false (front_of o fields)) (ap (first_of node) e) (carries false (ap is_control e)) in
        let m : 16 ≡ 4 + size_of s = rw (ap is_control e) refl in
        taken_access_segment r h msg (akf_of key) (aid_of node key) fields
        (access_segment_reads_back h (akf_of key) (aid_of node key) fields c (key_range key low u) (in_range 16 m))

    taken_control :
        (r : Receiver) (msg : List ℕ) (code : ℕ) (parameters : List ℕ) → s.words ≡ Control code parameters → OpcodeInRange code
        → taken_as (form_of h) r h msg ≡ as_segment r msg
    taken_control r msg code parameters e o =
        let c = subst (λ (o : ℕ). Carries h true (front_of o fields)) (ap (first_of node) e) (carries true (ap is_control e)) in
        let m : 12 ≡ 4 + size_of s = rw (ap is_control e) refl in
        taken_control_segment r h msg code fields (control_segment_reads_back h code fields c o (ap szmic_of e) (in_range 12 m))

    module _ (made : WellMade node) where
      taken_as_law : (r : Receiver) (msg : List ℕ) (ws : Words) → s.words ≡ ws → WordsRead node s ws → taken_as (form_of h) r h msg ≡ as_segment r msg
      taken_as_law r msg (Access key szmic payload) e q =
          let o = message_opens node s made szmic payload (replicate message_octets 0) (omega arith) key e q in
          taken_access r msg key szmic payload e o.aid_fits o.unicast
      taken_as_law r msg (Control code parameters) e q = taken_control r msg code parameters e q.1

      pub segment_taken : (r : Receiver) (msg : List ℕ) → taken_as (form_of h) r h msg ≡ as_segment r msg
      segment_taken r msg = taken_as_law r msg s.words refl w.words_read

    -- ---- its number leads back to SeqAuth
    first_octet_law : get_or h.transport 0 0 ≡ first_of node s.words
    first_octet_law =
        let c = carries (is_control s.words) refl in
        ap (λ (t : List ℕ). get_or t 0 0) c.begins
        ∙ front_first (first_of node s.words) (szmic_of s.words) (s.auth.seq % 8192) i (last_of node s) c.behind

    segment_is : segments.segment_of h fields s.auth.seq ≡ record { auth = s.auth; terms = terms_of node s; sego = i }
    unfolding header_of
    segment_is = rw first_octet_law refl

    pub segment_placed :
        (r : Receiver) (msg : List ℕ) → SegmentOf s.auth.seq seq
        → as_segment r msg ≡ segments.placed r h (record { auth = s.auth; terms = terms_of node s; sego = i }) msg
    unfolding header_of
    segment_placed r msg t =
        segmented_placed r h msg fields s.auth.seq (leads_back s.auth.seq seq t) ∙ ap (λ (g : Segment). segments.placed r h g msg) segment_is
