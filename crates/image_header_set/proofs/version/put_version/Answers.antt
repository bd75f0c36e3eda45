use native.Mathlib.Omega.{arith}
use Rattle.spec_laws.proofs.Wire.Bytes.{length-bytes}
use Rattle.image_header_set.proofs.VersionLaws.{version_counts, version_back}
use Rattle.image_header_set.proofs.version.put_version.Goals as goal

pub put8-requires : goal.put8-requires
put8-requires c = let p = c.requires.0 in omega arith

pub put_back-requires : goal.put_back-requires
put_back-requires c =
    version_counts c.args.out.now _ c.args.count c.args.version c.requires c.ranges.version.fits (record { image = c.put8.ensures; long = length-bytes 8 c.args.version })

pub returns : goal.returns
returns c =
    version_back c.args.out.now _ c.args.count c.args.version c.requires c.ranges.version.fits (record { image = c.put8.ensures; long = length-bytes 8 c.args.version }) (λ i. omega (arith, c.slice_known-2-1.given i)) _ c.put_back.ensures
