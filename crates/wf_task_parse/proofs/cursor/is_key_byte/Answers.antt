use Rattle.wf_task_parse.proofs.CursorLemmas.{plain_byte}
use Rattle.wf_task_parse.proofs.cursor.is_key_byte.Goals as goal

pub returns-then-byte-ge95 : goal.returns-then-byte-ge95
returns-then-byte-ge95 c _ = plain_byte c.args.byte c.if-byte-ge95.true
