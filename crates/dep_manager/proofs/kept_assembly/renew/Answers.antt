use Rattle.std.proofs.Common.{refl}
use Rattle.dep_manager.proofs.RenewLemmas.{renewed_by}
use Rattle.dep_manager.proofs.ShownLemmas.{renewed_stand}
use Rattle.dep_manager.proofs.kept_assembly.renew.Goals as goal

pub returns-clause-kept : goal.returns-clause-kept
returns-clause-kept g c entries known target reached listener is changes =
    renewed_by entries known c.args.cache.now target reached c.args.changed.now c.in_ok-news.news c.args.last listener c.requires is changes c.in_ok-news.ensures.news
    (record { references = c.args.last.references; calls_alone = c.args.last.calls_alone; awaited = c.news_of.new.awaited; config = c.in_ok-renewed.renewed.config; sources = c.args.last.sources; others = c.in_ok-renewed.renewed.others })
    c.in_ok-news.ensures.lawful refl refl refl
    c.in_ok-renewed.ensures.config
    c.in_ok-news.ensures.awaited
    c.in_ok-news.ensures.rising

pub returns-clause-stands : goal.returns-clause-stands
returns-clause-stands g c shown stand =
    renewed_stand c.in_ok-news.news c.args.last.others c.in_ok-renewed.renewed.others shown c.args.last.config c.in_ok-renewed.renewed.config c.args.last.sources
    c.in_ok-renewed.ensures.others
    c.in_ok-renewed.ensures.config
    stand
