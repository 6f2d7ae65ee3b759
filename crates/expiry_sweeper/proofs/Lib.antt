pub mod SweepLemmas
