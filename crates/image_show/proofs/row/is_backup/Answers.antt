use mathlib.Core.Path.{refl}
use mathlib.Core.Bool.{false}
use Rattle.spec_laws.proofs.Lists.{not_both}
use Rattle.image_show.proofs.row.is_backup.Goals as goal

pub returns-in-Backup : goal.returns-in-Backup
returns-in-Backup c = λ e. c.in-Backup.is

pub returns-in-Primary : goal.returns-in-Primary
returns-in-Primary c = λ e. not_both false e refl
