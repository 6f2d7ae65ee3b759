pub mod EntriesLemmas
pub mod KeptLemmas
pub mod PushLemmas
