use Rattle.test_decode.proofs.Held.{told}
use Rattle.test_decode.proofs.kinds.message.Goals as goal

pub request-requires : goal.request-requires
request-requires c = told _ _ _ c.decode-m.ensures c.in-Request.is

pub replicate-requires : goal.replicate-requires
replicate-requires c = told _ _ _ c.decode-m.ensures c.in-Replicate.is

pub new_epoch-requires : goal.new_epoch-requires
new_epoch-requires c = told _ _ _ c.decode-m.ensures c.in-NewEpoch.is

pub copy_shard-requires : goal.copy_shard-requires
copy_shard-requires c = told _ _ _ c.decode-m.ensures c.in-CopyShard.is

pub write-requires : goal.write-requires
write-requires c = told _ _ _ c.decode-m.ensures c.in-Write.is

pub search-requires : goal.search-requires
search-requires c = told _ _ _ c.decode-m.ensures c.in-Search.is
