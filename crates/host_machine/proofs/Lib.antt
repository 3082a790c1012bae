mod MachineLaws
