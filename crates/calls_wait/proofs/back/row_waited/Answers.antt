use Rattle.calls_wait.proofs.BackLaws.{row-waited}
use Rattle.calls_wait.proofs.back.row_waited.Goals as goal

pub returns : goal.returns
returns c =
    let a = c.args in
    let the-pre = c.requires in
    let the-get8 = c.get8-n in
    let the-get82 = c.get8-last in
    row-waited a.out.now _ _ a.at the-get8.result the-get82.result a.clock a.timeout the-pre.0 the-pre.1 c.front_tidied.ensures the-get8.ensures the-get82.ensures c.peers_waited.ensures
