use Rattle.image_header_row.specs.Rows.{role_bytes}
use Rattle.image_header_row.proofs.held.put_role.Goals as goal

pub returns-in-Backup : goal.returns-in-Backup
unfolding role_bytes
returns-in-Backup c = rw c.in-Backup.is c.put_primary.ensures

pub returns-in-Primary : goal.returns-in-Primary
unfolding role_bytes
returns-in-Primary c = rw c.in-Primary.is c.put_primary-in-Primary.ensures
