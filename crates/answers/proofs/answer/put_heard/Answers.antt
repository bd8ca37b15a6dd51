-- `answer::put_heard` meets its contract: behind the front of an access message stands the message.
-- Assumes nothing.
use Rattle.text.proofs.WriterLaws.{writing_then}
use Rattle.answers.specs.Answer.{heard_text}
use Rattle.answers.proofs.answer.put_heard.Goals as goal

pub returns-in-Access : goal.returns-in-Access
unfolding heard_text
returns-in-Access c = rw (c.in-Ok.is, c.in-Access.is, ← c.first.ensures) (writing_then _ _ _ c.put_access.ensures c.put_message.ensures)
