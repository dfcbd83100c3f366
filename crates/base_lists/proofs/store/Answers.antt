-- `base_lists::store` meets its contract: each turn stores one element more. Assumes nothing.
use Rattle.base_lists.proofs.Stores.{stored_none, stored_more, stored_all}
use Rattle.base_lists.proofs.store.Goals as goal

pub loop-j-init : goal.loop-j-init
loop-j-init g c = stored_none _ _ _ c.requires

pub loop-j-preserved : goal.loop-j-preserved
loop-j-preserved g c = stored_more _ _ _ c.requires _ _ _ c.loop-j-test.true c.index-w-j.is c.loop-j.invariant

pub returns : goal.returns
returns g c = stored_all _ _ _ c.requires _ _ c.loop-j-test.false c.loop-j.invariant
