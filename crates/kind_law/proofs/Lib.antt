pub mod KindMeaningLaws
