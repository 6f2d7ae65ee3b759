pub use Rattle.key_shard.specs.Shards
pub mod Releases
