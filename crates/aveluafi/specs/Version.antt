-- The version of the interface: AVELUAFI_VERSION of include/aveluafi.h. It is raised whenever a declaration there changes.
use Rattle.std.specs.Prelude.{ℕ}

abbrev pub version : ℕ
version = 3
