use Rattle.image_map_form.proofs.Canon.{same-primary}
use Rattle.image_map_form.proofs.tidy.tidy_shard.Goals as goal

pub returns : goal.returns
returns c =
    let r = c.args.r in
    rw (c.tidy_key-key.ensures, c.tidy_holders-replicas.ensures, c.tidy_in_sync-insync.ensures, same-primary r.primary)
