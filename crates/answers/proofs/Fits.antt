-- No answer is cut: a hex number has at most 17 digits here and a decimal one 21, and so the longest text, that of a receiver, has at most 6,991 octets.
--   refusal_most to sending_most   the most octets of each piece, in the order of the definitions
-- Assumes nothing.
use mathlib.Core.List.{List, [], ◌∷◌, ◌++◌}
use Prim.Native.Nat.{ℕ, ◌+◌, ◌*◌, ◌≤◌, min}
use Prim.Native.String.{String}
use native.Mathlib.Omega.{arith}
use lib.Dec.{eqb}
use lib.ListN.{length, take, length-append, length-take, length-drop}
use lib.Seq.{take_all}
use Rattle.std.specs.Prelude.{Result, Ok, Err}
use Rattle.common.proofs.Tests.{by_choice}
use Rattle.network.specs.Pdu.{pdu_octets}
use Rattle.memory.specs.declared.cache.Cache.{Cache}
use Rattle.memory.specs.declared.cache.Seen.{Seen}
use Rattle.memory.specs.declared.outgoing.Effect.{Effect}
use Rattle.memory.specs.declared.outgoing.Effect.TheVariants as effect
use Rattle.memory.specs.declared.outgoing.Outgoing.{Outgoing}
use Rattle.memory.specs.declared.pair.Pair.{Pair}
use Rattle.memory.specs.declared.replay.Entry.{Entry}
use Rattle.memory.specs.declared.replay.Last.{Last}
use Rattle.memory.specs.declared.session.Session.{Session}
use Rattle.memory.specs.Cache.{cache_entries, oldest_first}
use Rattle.memory.specs.Replay.{replay_entries}
use Rattle.memory.specs.Session.{session_slots, is_free}
use Rattle.transport.specs.declared.securing.Opener.{Opener}
use Rattle.transport.specs.declared.securing.Opener.TheVariants.{Application, Labelled, Device}
use Rattle.transport.specs.declared.vetting.Refusal.TheVariants as vetted
use Rattle.transport.specs.Segment.{message_octets}
use Rattle.node.specs.Addresses.{element_places}
use Rattle.receiver.specs.declared.answer.Answer.{Answer}
use Rattle.receiver.specs.declared.answer.Answer.TheVariants.{Stored, Repeated, Access, Control, Acknowledgement}
use Rattle.receiver.specs.Answer.{refusal_number}
use Rattle.receiver.specs.declared.answer.Refusal as receiver
use Rattle.sending.specs.declared.answer.Answer.TheVariants as sending
use Rattle.commands.specs.declared.desk.Reply.TheVariants as reply
use Rattle.text.specs.Octets.{octets}
use Rattle.text.specs.Hex.{hex_text}
use Rattle.text.specs.Refusal.{refusal_text, refused_text}
use Rattle.answers.specs.declared.answer.Trials.{Trials}
use Rattle.answers.specs.Answer.{named, trials_text, pair_text, segments_text, route_text, keys_text, opener_text, message_text, effect_text, access_text}
use Rattle.answers.specs.Answer.{control_text, acknowledgement_text, heard_text, forward_text, spoken_text, given_up_text, set_up_text, vetted_text, noted_text}
use Rattle.answers.specs.Looking.{next_text, seen_text, cache_text, last_text, entry_text, session_text, heard_so_far, sending_text, receiver_text}
use Rattle.answers.specs.Fits.{FitsWhole, HeardFits, SpokenFits, GivenUpFits, SetUpFits, VettedFits, NotedFits, ReceiverFits}
use Rattle.answers.proofs.TextLengths.{AtMost, both, wider, none, placed_most, label_most, number_most, decimal_most, named_most, hex_most}

-- ---- where there is room for it
pub fits_whole : FitsWhole
fits_whole text out at h free = take_all (length out) (take at out ++ text) (omega (arith, length-append (take at out) text, length-take at out))

-- ---- the pieces of answers
refusal_most : (n : ℕ) → AtMost pdu_octets (refusal_text n)
refusal_most n = both (label_most "refused ") (decimal_most n)

pub refused_most : (n : ℕ) → AtMost 30 (refused_text n)
refused_most n = both (refusal_most n) (label_most "\n")

trials_most : (t : Trials) → AtMost 43 (trials_text t)
trials_most t = both (named_most " trials " 1 t.network) (named_most " " 1 t.application)

pair_most : (p : Pair) (label : String) → AtMost (21 + (length (octets label) + 17)) (pair_text p (octets label))
pair_most p label = both (named_most " iv " 8 p.iv) (both (label_most label) (number_most 6 p.seq))

segments_most : (src : ℕ) (auth : Pair) (bits : ℕ) → AtMost 89 (segments_text src auth bits)
segments_most src auth bits = both (named_most " src " 4 src) (both (pair_most auth " auth ") (named_most " bits " 8 bits))

route_most : (src dst : ℕ) → AtMost 44 (route_text src dst)
route_most src dst = both (named_most " src " 4 src) (named_most " dst " 4 dst)

keys_most : (network key : ℕ) → AtMost 44 (keys_text network key)
keys_most network key = both (named_most " net " 1 network) (named_most " key " 1 key)

opener_most : (network : ℕ) (opener : Opener) → AtMost 68 (opener_text network opener)
opener_most network (Application key) = wider (keys_most network key) (omega arith)
opener_most network (Labelled key label) = both (named_most " label " 1 label) (keys_most network key)
opener_most network Device = wider (both (named_most " net " 1 network) (label_most " key dev")) (omega arith)

-- the first octets of a buffer of 384
buffer_most : (len : ℕ) (buffer : List ℕ) → length buffer ≤ message_octets → AtMost 769 (hex_text (take len buffer))
buffer_most len buffer h = hex_most message_octets (take len buffer) (omega (arith, length-take len buffer))

message_most : (p : Pair) (t : Trials) (len : ℕ) (message : List ℕ) → length message ≤ message_octets → AtMost 864 (message_text p t (take len message))
message_most p t len message h =
    both (pair_most p " seq ") (both (trials_most t) (both (label_most " message ") (buffer_most len message h)))

effect_most : (e : Effect) → AtMost 10 (effect_text e)
effect_most effect.Nothing = wider (label_most " nothing") (omega arith)
effect_most effect.Marked = wider (label_most " marked") (omega arith)
effect_most effect.Completed = wider (label_most " complete") (omega arith)
effect_most effect.Cancelled = label_most " cancelled"

access_most : (src dst network : ℕ) (opener : Opener) → AtMost 118 (access_text src dst network opener)
access_most src dst network opener = both (label_most "access") (both (route_most src dst) (opener_most network opener))

control_most : (src dst network opcode : ℕ) → AtMost 98 (control_text src dst network opcode)
control_most src dst network opcode = both (label_most "control") (both (route_most src dst) (both (named_most " net " 1 network) (named_most " opcode " 1 opcode)))

acknowledgement_most : (src bits : ℕ) (e : Effect) (t : Trials) → AtMost 113 (acknowledgement_text src bits e t)
acknowledgement_most src bits e t =
    both (named_most "acknowledgement src " 4 src) (both (named_most " bits " 8 bits) (both (effect_most e) (trials_most t)))

-- ---- the answers
heard_most : (a : Result Answer receiver.Refusal) (t : Trials) (message : List ℕ) → length message ≤ message_octets → AtMost 982 (heard_text a t message)
unfolding heard_text
heard_most (Err refusal) t message h = wider (both (refusal_most (refusal_number refusal)) (trials_most t)) (omega arith)
heard_most (Ok (Stored src auth bits)) t message h = wider (both (label_most "stored") (both (segments_most src auth bits) (trials_most t))) (omega arith)
heard_most (Ok (Repeated src auth bits)) t message h = wider (both (label_most "repeat") (both (segments_most src auth bits) (trials_most t))) (omega arith)
heard_most (Ok (Access src dst network opener pair len)) t message h = both (access_most src dst network opener) (message_most pair t len message h)
heard_most (Ok (Control src dst network opcode pair len)) t message h = wider (both (control_most src dst network opcode) (message_most pair t len message h)) (omega arith)
heard_most (Ok (Acknowledgement src bits e)) t message h = wider (acknowledgement_most src bits e t) (omega arith)

forward_most : (pdu : List ℕ) → length pdu ≤ message_octets → AtMost 779 (forward_text pdu)
forward_most [] h = wider (label_most "\n") (omega arith)
forward_most (o ∷ pdu) h = both (label_most " forward ") (both (hex_most message_octets (o ∷ pdu) h) (label_most "\n"))

pub heard_fits : HeardFits
heard_fits a t message pdu h1 h2 = omega (arith, both (heard_most a t message h1) (forward_most pdu h2))

pub spoken_fits : SpokenFits
unfolding spoken_text
spoken_fits (Ok (sending.Sent len)) pdu h = omega (arith, both (label_most "sent ") (both (buffer_most len pdu h) (label_most "\n")))
spoken_fits (Ok (sending.Started len segn)) pdu h =
    omega (arith, both (label_most "started ") (both (buffer_most len pdu h) (both (named_most " segments " 1 (segn + 1)) (label_most "\n"))))
spoken_fits (Err refusal) pdu h = omega (arith, refused_most (refusal_number refusal))

pub given_up_fits : GivenUpFits
unfolding given_up_text
given_up_fits (Ok _) = omega arith
given_up_fits (Err refusal) = omega (arith, refused_most (refusal_number refusal))

pub set_up_fits : SetUpFits
unfolding set_up_text
set_up_fits (Ok _) = omega arith
set_up_fits (Err refusal) = omega (arith, refused_most (refusal_number refusal))

pub vetted_fits : VettedFits
unfolding vetted_text
vetted_fits (Ok len) message h = omega (arith, both (label_most "approved message ") (both (buffer_most len message h) (label_most "\n")))
vetted_fits (Err vetted.ShortBuffer) message h = omega (arith, refused_most 16)
vetted_fits (Err (vetted.Fault k)) message h = omega (arith, both (refusal_most 26) (both (named_most " at " 1 k) (label_most "\n")))
vetted_fits (Err vetted.Unfinished) message h = omega (arith, refused_most 27)

pub noted_fits : NotedFits
unfolding noted_text
noted_fits reply.Ok = omega arith
noted_fits reply.Unread = omega arith
noted_fits reply.Silence = omega arith
noted_fits reply.Refused = omega (arith, refused_most 14)

-- ---- what a receiver holds: at most 8 elements, 16 cache entries, 32 replay entries and 8 sessions
next_most : (next : List ℕ) (elements : ℕ) → AtMost (3 + (element_places * 18 + 1)) (next_text next elements)
next_most next elements =
    let l : List ℕ = take (min elements element_places) next in
    let few : length l ≤ element_places = omega (arith, length-take (min elements element_places) next) in
    both (label_most "seq") (both (placed_most (λ i seq. named " " 6 seq) 18 (λ i seq. named_most " " 6 seq) element_places 0 l few) (label_most "\n"))

seen_most : (e : Seen) → AtMost 54 (seen_text e)
seen_most e =
    by_choice (AtMost 54) (eqb e.src 0) (λ t. none) (λ t. both (named_most " " 4 e.src) (both (named_most ":" 6 e.seq) (named_most ":" 8 e.iv)))

oldest_few : (c : Cache) → length c.entries ≤ cache_entries → length (oldest_first c) ≤ cache_entries
oldest_few c h = simp (length-append, length-drop, length-take) (omega arith)

cache_most : (c : Cache) → length c.entries ≤ cache_entries → AtMost (5 + (cache_entries * 54 + 1)) (cache_text c)
cache_most c h =
    both (label_most "cache")
    (both (placed_most (λ i e. seen_text e) 54 (λ i e. seen_most e) cache_entries 0 (oldest_first c) (oldest_few c h)) (label_most "\n"))

last_most : (l : Last) → AtMost 86 (last_text l)
last_most l =
    by_choice (AtMost 86) (eqb l.dst 0) (λ t. none)
    (λ t.
    both (named_most " last " 8 l.auth.iv) (both (named_most " " 6 l.auth.seq) (both (named_most " segn " 1 l.segn) (named_most " dst " 4 l.dst))))

entry_most : (e : Entry) → AtMost 154 (entry_text e)
entry_most e =
    by_choice (AtMost 154) (eqb e.src 0) (λ t. none)
    (λ t. both (named_most "replay " 4 e.src) (both (pair_most e.pair " seq ") (both (last_most e.last) (label_most "\n"))))

session_most : (slot : ℕ) (s : Session) → AtMost 115 (session_text slot s)
session_most slot s =
    by_choice (AtMost 115) (is_free s) (λ t. none)
    (λ t. both (named_most "session " 1 slot) (both (segments_most s.src s.auth s.filled) (label_most "\n")))

so_far_most : (segn heard : ℕ) → AtMost 48 (heard_so_far segn heard)
so_far_most segn heard = both (named_most " segn " 1 segn) (both (named_most " heard " 8 heard) (label_most "\n"))

sending_most : (o : Outgoing) → AtMost 121 (sending_text o)
sending_most o =
    by_choice (AtMost 121) (eqb o.src 0) (λ t. none)
    (λ t. both (named_most "sending dst " 4 o.terms.dst) (both (pair_most o.auth " auth ") (so_far_most o.terms.segn o.heard)))

pub receiver_fits : ReceiverFits
unfolding receiver_text
receiver_fits r h1 h2 h3 =
    let text =
    both (next_most r.next r.node.elements)
    (both (cache_most r.cache h1)
    (both (placed_most (λ i e. entry_text e) 154 (λ i e. entry_most e) replay_entries 0 r.replay h2)
    (both (placed_most session_text 115 session_most session_slots 0 r.sessions h3) (both (sending_most r.out) (label_most "end\n"))))) in
    omega (arith, text)
