use Rattle.calls_count.proofs.AnswerLaws.{loaded}
use Rattle.calls_count.proofs.ids.load_ids.Goals as goal

pub returns : goal.returns
returns c = loaded c.args.s.now _ _ _ _ c.id_at.ensures c.id_at-2.ensures c.id_at-3.ensures c.id_at-4.ensures
