use Rattle.std.proofs.Common.{◌≡◌, drop}
use Rattle.xc_keys.specs.Keys.{key_cmp}
use Rattle.config_assembly.specs.Orders.{put_in, sorted}
use Rattle.book_fates.proofs.key_set.key_set.Given as goal

abbrev pub invariant-loop-key : goal.invariant-loop-key
invariant-loop-key l = put_in key_cmp l.set.keys (drop l.key-index l.keys) ≡ sorted key_cmp l.fn.keys
