mod KeyLemmas
mod KindLemmas
