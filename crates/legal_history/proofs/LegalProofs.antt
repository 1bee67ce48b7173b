-- Proof of the law on how long legal histories are.
use Rattle.xds_history.specs.Setting.{setting_of}
use Rattle.legal_history.specs.Legal.{is_read}
use Rattle.legal_history.specs.LegalLaws.{FewEntries}

pub few : FewEntries
few session room history enough legal = enough (is_read (setting_of session.boot session.target)) history legal.listed
