mod CutLemmas
mod RisingLemmas
mod TableFacts
