use Rattle.book_fates.specs.Delivered.{delivered_in, told_as}
use Rattle.book_fates.proofs.fates.lacks_key.Goals as goal

pub returns : goal.returns
returns c = c.lacks.ensures (told_as (delivered_in c.args.response.now)) c.requires
