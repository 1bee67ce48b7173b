use Rattle.std.proofs.Common.{sym, subst}
use Rattle.std.specs.Prelude.{IfOk}
use Rattle.xds_config.specs.Endpoints.{IsLawfulEndpoints}
use Rattle.xds_cache.specs.KeptFates.{shown}
use Rattle.dep_manager.proofs.NewsLemmas.{lawful_endpoints}
use Rattle.dep_manager.proofs.endpoint_news.look.Goals as goal

pub put-requires : goal.put-requires
put-requires g c = subst (λ state. IfOk state IsLawfulEndpoints) (sym c.in_ok-state.ensures) (lawful_endpoints c.args.key.now (shown c.get-fate.result) c.get-fate.ensures.lawful)
