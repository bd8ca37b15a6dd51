-- Our own voice (document 02, W5): a PDU whose SRC is one of our elements is refused 22, after 4 and before 5, and leaves everything; so we never list ourselves.
--   OwnExactly     22 exactly for such a PDU, whatever receiver hears it, and what it leaves
--   OthersOnly r   no entry of the cache or of the replay list, and no session, has one of our elements as its SRC
--   NeverListed    so it is of every receiver that setup made, whatever was called since
use Rattle.std.specs.Prelude.{Ok, false, List, ◌≡◌, ℕ, get_or}
use Rattle.network.specs.declared.header.Header.{Header}
use Rattle.memory.specs.Cache.{no_seen}
use Rattle.memory.specs.Replay.{no_entry}
use Rattle.memory.specs.Session.{session_at}
use Rattle.node.specs.declared.setup.Setup.{Setup}
use Rattle.node.specs.Addresses.{is_local}
use Rattle.receiver.specs.declared.answer.Refusal.TheVariants.{OwnSource}
use Rattle.receiver.specs.declared.state.Receiver.{Receiver}
use Rattle.receiver.specs.Fresh.{setting_up}
use Rattle.receiver.specs.Hearing.{outcome, refused_heard, hearing}
use Rattle.receiver.specs.Passing.{Ours}
use Rattle.demands.specs.Answers.{number_of}
use Rattle.demands.specs.Call.{Call, Hear, step, after}
use Rattle.demands.specs.Interleaved.{start}

-- ---- 22
-- a PDU that passes refusals 16 and 1 to 4 and has one of our elements as SRC: its answer is 22 with the count of network keys tried, and receiver and buffers are as they were
abbrev pub OwnRefused : Type 0
OwnRefused =
    (r : Receiver) (pdu fwd msg : List ℕ) (trials : ℕ) (h : Header)
    → Ours r pdu fwd msg trials h → hearing r pdu fwd msg ≡ outcome (refused_heard r OwnSource trials) fwd msg

-- and no other is refused so
abbrev pub OwnAlone : Type 0
OwnAlone =
    (r : Receiver) (pdu fwd msg : List ℕ) → number_of (step r (Hear pdu fwd msg)).answer ≡ 22
    → (trials : ℕ) × (h : Header) × Ours r pdu fwd msg trials h

abbrev pub OwnExactly : Type 0
OwnExactly = OwnRefused × OwnAlone

-- ---- whom we list
-- at each place; an empty one has SRC 0, and none is past the last
pub record OthersOnly (r : Receiver) : Type 0 where
  pub cache_others : (i : ℕ) → is_local r.node (get_or r.cache.entries i no_seen).src ≡ false
  pub entries_others : (i : ℕ) → is_local r.node (get_or r.replay i no_entry).src ≡ false
  pub sessions_others : (i : ℕ) → is_local r.node (session_at r.sessions i).src ≡ false

abbrev pub NeverListed : Type 0
NeverListed = (s : Setup) (l : List Call) → (setting_up s).answer ≡ Ok tt → OthersOnly (after (start s) l)
