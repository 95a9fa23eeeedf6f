use Rattle.chain_gen.proofs.Contents.{genesis_hash_is}
use Rattle.chain_gen.proofs.growth.make.Goals as goal

pub walk_from-requires-clause-hash : goal.walk_from-requires-clause-hash
walk_from-requires-clause-hash c = genesis_hash_is c.in_ok-transaction.ensures.hash_is

pub blocks_after-requires-clause-common : goal.blocks_after-requires-clause-common
blocks_after-requires-clause-common c = record {
  lock_is = c.in_ok-lock.ensures.lock;
  lock_size = c.in_ok-lock.ensures.size;
  genesis_hash_is = genesis_hash_is c.in_ok-transaction.ensures.hash_is;
}
