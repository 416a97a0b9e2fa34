use Rattle.core_word.proofs.Beginning.{opens}
use Rattle.core_word.proofs.home.Home.new.Goals as goal

pub vacant-requires : goal.vacant-requires
vacant-requires g c = opens
