use Rattle.std.proofs.Common.{◌/◌, arith}
use Rattle.std.proofs.lemmas.List.{get_or_read}
use Rattle.wf_network.proofs.MarkLemmas.{bits_marked, bits_more, bits_only}
use Rattle.wf_network.proofs.marks.add_users.Goals as goal

pub returns-clause-marked : goal.returns-clause-marked
returns-clause-marked c = bits_marked c.args.words.now.items c.index_mut.result.now c.half_of.result c.args.users c.half_of.ensures c.requires

pub returns-clause-kept : goal.returns-clause-kept
returns-clause-kept c = bits_more c.args.words.now.items c.index_mut.result.now c.half_of.result c.args.users c.requires (get_or_read c.args.words.now.items (c.args.users.word / 2) c.index_mut.result.now (omega (arith, c.requires)) c.index_mut.ensures.value 0)

pub returns-clause-only : goal.returns-clause-only
returns-clause-only c = bits_only c.args.words.now.items c.index_mut.result.now c.half_of.result c.args.users c.half_of.ensures c.requires (get_or_read c.args.words.now.items (c.args.users.word / 2) c.index_mut.result.now (omega (arith, c.requires)) c.index_mut.ensures.value 0)
