-- What the definitions of a history are given: whom the channel calls, where names live, and how payloads are read and
-- resources checked.
use Rattle.std.specs.Prelude.{ℕ, List, Bool, Option, Result, length}
use Rattle.std.specs.Result.{result_ok}
use Rattle.xc_base.specs.declared.names.Kind.{Kind}
use Rattle.xc_base.specs.declared.names.Key.{Key}
use Rattle.xc_base.specs.declared.call.Node.{Node}
use Rattle.proto_discovery.specs.declared.any.AnyValue.{AnyValue}
use Rattle.proto_discovery.specs.declared.response.Response.{Response}
use Rattle.proto_discovery.specs.Response.{response_of}
use Rattle.proto_discovery.specs.TypeUrls as urls
use Rattle.xds_bootstrap.specs.declared.bootstrap.Bootstrap.{Bootstrap}
use Rattle.xds_name.specs.Names.{resource_key}
use Rattle.xds_name.specs.declared.target.Target.{Target}
use Rattle.xds_cache.specs.declared.fate.Known.{Known}
use Rattle.config_assembly.specs.ReachedResources.{Resources}
use Rattle.resource_check.specs.declared.resource.Checked.{Checked}
use Rattle.check_steps.specs.declared.check_fault.Refusal.{Refusal}
use Rattle.resource_check.specs.Resources.{check_of}
use Rattle.config_assembly.specs.Orders.{Name}

pub record Setting : Type 0 where
  -- the listener's key, and the text for which a virtual host is chosen
  pub target : Target
  pub node : Node
  -- how many authorities there are, and the key of a name
  pub authorities : ℕ
  pub key : Kind → Name → Key
  -- how a payload is read, and of what kind a type URL is
  pub read : List ℕ → Option Response
  pub kind_of : Name → Option Kind
  -- the check of a resource of a kind, where some texts are refused as patterns
  pub check : (Name → Bool) → Kind → AnyValue → Result Checked Refusal

-- the setting of a channel with this bootstrap and target
abbrev pub setting_of : Bootstrap → Target → Setting
setting_of boot target = record {
  target = target;
  node = boot.node;
  authorities = length boot.authorities;
  key = resource_key boot.authorities;
  read = λ payload. result_ok (response_of payload);
  kind_of = urls.kind_of;
  check = check_of;
}

-- what a configuration is made from, where this is known of the keys
abbrev pub known_as : Setting → (Key → Known) → Resources
known_as s fate = record { target = s.target; key = s.key; fate = fate }
