use mathlib.Core.Path.{sym, ◌∙◌}
use Rattle.image_map_check.proofs.FormedLaws.{formed-none, formed-second, formed-third, formed-last}
use Rattle.image_map_check.proofs.formed.is_formed.Goals as goal

pub returns-then-not-nodes_fit : goal.returns-then-not-nodes_fit
returns-then-not-nodes_fit c = formed-none c.args.s.now (sym c.nodes_fit.ensures ∙ c.if-not-nodes_fit.true)

pub returns-then-not-collections_fit : goal.returns-then-not-collections_fit
returns-then-not-collections_fit c =
    formed-second c.args.s.now (sym c.nodes_fit.ensures ∙ c.if-not-nodes_fit.false) (sym c.collections_fit.ensures ∙ c.if-not-collections_fit.true)

pub returns-then-not-shards_fit : goal.returns-then-not-shards_fit
returns-then-not-shards_fit c =
    formed-third c.args.s.now (sym c.nodes_fit.ensures ∙ c.if-not-nodes_fit.false) (sym c.collections_fit.ensures ∙ c.if-not-collections_fit.false) (sym c.shards_fit.ensures ∙ c.if-not-shards_fit.true)

pub returns : goal.returns
returns c =
    c.sessions_fit.ensures ∙ formed-last c.args.s.now (sym c.nodes_fit.ensures ∙ c.if-not-nodes_fit.false) (sym c.collections_fit.ensures ∙ c.if-not-collections_fit.false) (sym c.shards_fit.ensures ∙ c.if-not-shards_fit.false)
